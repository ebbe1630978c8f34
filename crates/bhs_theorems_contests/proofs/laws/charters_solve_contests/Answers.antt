use Rattle.bhs_theorems_contests.proofs.InstanceLemmas.{charters_solve_contests}
use Rattle.bhs_theorems_contests.proofs.laws.charters_solve_contests.Goals as goal

pub returns : goal.returns
returns c = charters_solve_contests
