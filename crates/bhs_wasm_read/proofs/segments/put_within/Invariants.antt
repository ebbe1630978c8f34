use Rattle.std.proofs.Common.{◌≡◌, ◌+◌, drop}
use Rattle.bhs_wasm.specs.States.{put_at}
use Rattle.bhs_wasm_read.proofs.segments.put_within.Given as goal

abbrev pub invariant-loop-byte : goal.invariant-loop-byte
invariant-loop-byte l = (l.place ≡ l.first + l.byte-index)
    × (put_at l.memory (drop l.byte-index l.bytes) l.place ≡ put_at l.initial.memory l.bytes l.first)
