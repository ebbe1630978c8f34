use Rattle.bhs_shared_match.proofs.OnePassLemmas.{IsSoFar}
use Rattle.bhs_shared_match.proofs.PastLogLemmas.{IsEnding}
use Rattle.bhs_shared_match.proofs.differences.first_difference.Given as goal

abbrev pub invariant-loop-place : goal.invariant-loop-place
invariant-loop-place l = IsSoFar l.play l.passes l.log l.heard l.place l.best

abbrev pub invariant-loop-pass : goal.invariant-loop-pass
invariant-loop-pass l = IsEnding l.play l.passes l.heard l.pass-index l.best
