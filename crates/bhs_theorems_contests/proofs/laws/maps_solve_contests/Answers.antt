use Rattle.bhs_theorems_contests.proofs.InstanceLemmas.{maps_solve_contests}
use Rattle.bhs_theorems_contests.proofs.laws.maps_solve_contests.Goals as goal

pub returns : goal.returns
returns c = maps_solve_contests
