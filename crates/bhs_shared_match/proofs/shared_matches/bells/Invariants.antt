use Rattle.std.proofs.Common.{◌≡◌, length}
use Rattle.bhs_shared_match.proofs.shared_matches.bells.Given as goal

abbrev pub invariant-loop-agent : goal.invariant-loop-agent
invariant-loop-agent l = length l.bells.items ≡ l._agent
