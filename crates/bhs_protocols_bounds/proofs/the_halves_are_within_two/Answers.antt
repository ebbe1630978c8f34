use Rattle.bhs_protocols_bounds.proofs.BoundLemmas.{every_team_moves, every_team_moves_more}
use Rattle.bhs_protocols_bounds.proofs.BesideHalves.{halves_solve_within_twice}
use Rattle.bhs_protocols_bounds.proofs.the_halves_are_within_two.Goals as goal

pub returns : goal.returns
returns c = record { every_team = every_team_moves; more = every_team_moves_more; halves = halves_solve_within_twice }
