use Rattle.bhs_theorems_contests.proofs.Contest.{contests_are_solved, contests_are_never_wrong, contests_stay_within}
use Rattle.bhs_theorems_contests.proofs.laws.contests_are_solved.Goals as goal

pub returns-clause-solved : goal.returns-clause-solved
returns-clause-solved c = contests_are_solved

pub returns-clause-never_wrong : goal.returns-clause-never_wrong
returns-clause-never_wrong c = contests_are_never_wrong

pub returns-clause-within : goal.returns-clause-within
returns-clause-within c = contests_stay_within
