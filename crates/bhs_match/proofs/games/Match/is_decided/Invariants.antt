use Rattle.std.proofs.Common.{◌≡◌, ◌<◌, ℕ, true}
use Rattle.bhs_match.specs.Decided.{is_done}
use Rattle.bhs_match.proofs.games.Match.is_decided.Given as goal

abbrev pub invariant-loop-agent : goal.invariant-loop-agent
invariant-loop-agent l = (k : ℕ) → k < l.agent → is_done l.self k ≡ true
