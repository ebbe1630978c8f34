use Rattle.std.proofs.Common.{◌≡◌, ◌++◌, drop, string_bytes}
use Rattle.bhs_cli.specs.Summary.{summary_from}
use Rattle.bhs_cli.proofs.tournaments.summaries.summary.Given as goal

abbrev pub invariant-loop-game : goal.invariant-loop-game
invariant-loop-game l = string_bytes l.text ++ summary_from l.game (drop l.game l.ready) ≡ summary_from 0 l.ready
