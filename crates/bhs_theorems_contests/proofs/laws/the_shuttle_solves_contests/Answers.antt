use Rattle.bhs_theorems_contests.proofs.InstanceLemmas.{shuttle_solves_contests}
use Rattle.bhs_theorems_contests.proofs.laws.the_shuttle_solves_contests.Goals as goal

pub returns : goal.returns
returns c = shuttle_solves_contests
