use Rattle.std.proofs.Common.{◌≡◌, ◌++◌, length, map}
use Rattle.bhs_referee.specs.Verdicts.{verdict_of}
use Rattle.bhs_contest.proofs.verdicts.verdicts_of.Given as goal

abbrev pub invariant-loop-rest : goal.invariant-loop-rest
invariant-loop-rest g l = l.verdicts.items ++ map verdict_of l.rest ≡ map verdict_of l.fn.sealed

abbrev pub decreases-loop-rest : goal.decreases-loop-rest
decreases-loop-rest g l = length l.rest
