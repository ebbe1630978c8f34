use Rattle.std.proofs.Common.{◌≡◌, false}
use Rattle.json.specs.Written.{PlainBetween}
use Rattle.bhs_replay.proofs.beginnings.is_plain.Given as goal

abbrev pub invariant-loop-byte : goal.invariant-loop-byte
invariant-loop-byte l = l.has_escape ≡ false → PlainBetween l.text 0 l.byte-index
