use Rattle.bhs_shared_match.specs.Settling.{NoneMissing}
use Rattle.bhs_shared_match.proofs.differences.missing.Given as goal

abbrev pub invariant-loop-agent : goal.invariant-loop-agent
invariant-loop-agent l = NoneMissing l.agent l.left l.passes
