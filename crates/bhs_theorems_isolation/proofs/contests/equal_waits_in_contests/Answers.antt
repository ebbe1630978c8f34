use Rattle.bhs_theorems_isolation.proofs.ContestTimeLemmas.{waits_in_contests_lemma}
use Rattle.bhs_theorems_isolation.proofs.contests.equal_waits_in_contests.Goals as goal

pub returns : goal.returns
returns c = waits_in_contests_lemma
