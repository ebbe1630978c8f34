use Rattle.bhs_theorems_contests.proofs.AttestedLemmas.{attested_matches_are_solved, attested_matches_are_never_wrong}
use Rattle.bhs_theorems_contests.proofs.laws.attested_matches_are_solved.Goals as goal

pub returns-clause-solved : goal.returns-clause-solved
returns-clause-solved c = attested_matches_are_solved

pub returns-clause-never_wrong : goal.returns-clause-never_wrong
returns-clause-never_wrong c = attested_matches_are_never_wrong
