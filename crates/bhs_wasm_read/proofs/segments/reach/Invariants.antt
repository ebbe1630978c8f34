use Rattle.std.proofs.Common.{◌≡◌, ◌++◌}
use Rattle.bhs_wasm.specs.States.{zeros}
use Rattle.bhs_wasm_read.proofs.segments.reach.Given as goal

abbrev pub invariant-loop : goal.invariant-loop
invariant-loop l = l.memory.items ≡ l.initial.memory.items ++ zeros l.counter
