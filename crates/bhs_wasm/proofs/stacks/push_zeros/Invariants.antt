use Rattle.std.proofs.Common.{◌≡◌, ◌++◌}
use Rattle.bhs_wasm.specs.States.{zeros}
use Rattle.bhs_wasm.proofs.stacks.push_zeros.Given as goal

abbrev pub invariant-loop : goal.invariant-loop
invariant-loop l = l.stack.items ≡ l.initial.stack.items ++ zeros l.counter
