use Rattle.std.proofs.Common.{◌≡◌, ◌<◌, ℕ, true}
use Rattle.bhs_match.specs.Decided.{has_entered}
use Rattle.bhs_match.proofs.games.Match.is_gathered.Given as goal

abbrev pub invariant-loop-agent : goal.invariant-loop-agent
invariant-loop-agent l = (k : ℕ) → k < l.agent → has_entered l.self k ≡ true
