use Rattle.bhs_theorems_isolation.proofs.LockedMatchTimeLemmas.{waits_lemma}
use Rattle.bhs_theorems_isolation.proofs.locks.equal_waits_under_locks.Goals as goal

pub returns : goal.returns
returns c = waits_lemma
