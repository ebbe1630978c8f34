use Rattle.std.proofs.Common.{◌≡◌, length}
use Rattle.bhs_shared_match.specs.Unclaimed.{AreFresh}
use Rattle.bhs_shared_match.proofs.unclaimed.Unclaimed.new.Given as goal

abbrev pub invariant-loop-agent : goal.invariant-loop-agent
invariant-loop-agent l = (length l.left.items ≡ l.agent) × AreFresh l.left.items
