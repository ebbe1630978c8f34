use Rattle.bhs_theorems_contests.proofs.InstanceLemmas.{halves_solve_contests}
use Rattle.bhs_theorems_contests.proofs.laws.the_halves_solve_contests.Goals as goal

pub returns : goal.returns
returns c = halves_solve_contests
