use Rattle.std.proofs.Common.{◌≡◌}
use Rattle.bhs_wasm.specs.States.{same_bytes}
use Rattle.bhs_wasm.proofs.memories.same.Given as goal

abbrev pub invariant-loop : goal.invariant-loop
invariant-loop l = l.bytes.items ≡ same_bytes l.byte l.counter
