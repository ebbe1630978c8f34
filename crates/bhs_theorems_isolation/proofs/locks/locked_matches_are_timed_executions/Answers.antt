use Rattle.bhs_theorems_isolation.proofs.LockedMatchTimeLemmas.{locked_matches_lemma}
use Rattle.bhs_theorems_isolation.proofs.locks.locked_matches_are_timed_executions.Goals as goal

pub returns : goal.returns
returns c = locked_matches_lemma
