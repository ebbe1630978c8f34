use Rattle.bhs_time.proofs.InTimeLogLemmas.{free_lemma}
use Rattle.bhs_time.proofs.laws.timed_logs_cross_no_held_link.Goals as goal

pub returns : goal.returns
returns c = free_lemma
