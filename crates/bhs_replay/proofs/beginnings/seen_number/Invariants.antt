use Rattle.std.proofs.Common.{◌≡◌, ◌++◌, decimal, length}
use Rattle.bhs_replay.proofs.beginnings.seen_number.Given as goal

abbrev pub invariant-loop-digit : goal.invariant-loop-digit
invariant-loop-digit l = l.fn.line ≡ decimal l.number ++ l.rest

abbrev pub decreases-loop-digit : goal.decreases-loop-digit
decreases-loop-digit l = length l.rest
