use Rattle.bhs_theorems_contests.proofs.InstanceLemmas.{dividers_solve_contests}
use Rattle.bhs_theorems_contests.proofs.laws.dividers_solve_contests.Goals as goal

pub returns : goal.returns
returns c = dividers_solve_contests
