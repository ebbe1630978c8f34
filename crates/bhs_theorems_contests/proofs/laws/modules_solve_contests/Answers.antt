use Rattle.bhs_theorems_contests.proofs.FileContest.{modules_solve_contests, modules_are_never_wrong}
use Rattle.bhs_theorems_contests.proofs.laws.modules_solve_contests.Goals as goal

pub returns-clause-solved : goal.returns-clause-solved
returns-clause-solved c = modules_solve_contests

pub returns-clause-never_wrong : goal.returns-clause-never_wrong
returns-clause-never_wrong c = modules_are_never_wrong
