use Rattle.bhs_theorems_isolation.proofs.ContestTimeLemmas.{every_arrival_in_contests_lemma}
use Rattle.bhs_theorems_isolation.proofs.contests.every_arrival_in_contests.Goals as goal

pub returns : goal.returns
returns c = every_arrival_in_contests_lemma
