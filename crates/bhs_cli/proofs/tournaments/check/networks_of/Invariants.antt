use Rattle.std.proofs.Common.{◌≡◌, ◌≤◌, length, vec_len}
use Rattle.std.specs.List.{All}
use Rattle.bhs_cli.specs.Summary.{IsRead}
use Rattle.bhs_cli.proofs.tournaments.check.networks_of.Given as goal

abbrev pub invariant-loop-name : goal.invariant-loop-name
invariant-loop-name g l = (vec_len l.networks ≡ l.name-index) × (l.name-index ≤ length l.name-items)
    × All IsRead l.networks.items
