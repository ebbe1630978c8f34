use Rattle.std.proofs.Common.{◌≡◌}
use Rattle.bhs_wasm.specs.States.{bytes_at}
use Rattle.bhs_wasm.proofs.memories.copied.Given as goal

abbrev pub invariant-loop-k : goal.invariant-loop-k
invariant-loop-k l = l.bytes.items ≡ bytes_at l.memory l.at l.k
