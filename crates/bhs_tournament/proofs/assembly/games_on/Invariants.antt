use Rattle.std.proofs.Common.{◌≡◌, map, drop}
use Rattle.bhs_files.specs.Names.{first_seen}
use Rattle.bhs_files.specs.Tournaments.{planned}
use Rattle.bhs_tournament.specs.Passes.{each_in, begun}
use Rattle.bhs_tournament.proofs.Passing.{then, network_in}
use Rattle.bhs_tournament.proofs.assembly.games_on.Given as goal

abbrev pub invariant-loop-game : goal.invariant-loop-game
invariant-loop-game l =
    let make = begun (network_in (first_seen (map (λ fixture. fixture.network) l.matches)) l.networks) in
    then l.games.items (each_in make l.game (map planned (drop l.game l.matches))) ≡ each_in make 0
    (map planned l.matches)
