use Rattle.std.proofs.Common.{◌≡◌, ◌-◌}
use Rattle.bhs_wasm.specs.Contents.{contents_of}
use Rattle.bhs_wasm.specs.States.{burned, run, state_of}
use Rattle.bhs_wasm.proofs.interpreters.Interpreter.run.Given as goal

abbrev pub invariant-loop : goal.invariant-loop
invariant-loop l = run (contents_of l.program) l.fuel (state_of l.initial.self)
    ≡ burned (contents_of l.program) (l.fuel - l.counter) l.left (state_of l.self)
