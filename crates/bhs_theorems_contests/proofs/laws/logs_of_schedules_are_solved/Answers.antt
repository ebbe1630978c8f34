use Rattle.bhs_theorems_contests.proofs.AttestedLemmas.{logs_of_schedules_are_solved, logs_of_schedules_are_never_wrong}
use Rattle.bhs_theorems_contests.proofs.laws.logs_of_schedules_are_solved.Goals as goal

pub returns-clause-solved : goal.returns-clause-solved
returns-clause-solved c = logs_of_schedules_are_solved

pub returns-clause-never_wrong : goal.returns-clause-never_wrong
returns-clause-never_wrong c = logs_of_schedules_are_never_wrong
