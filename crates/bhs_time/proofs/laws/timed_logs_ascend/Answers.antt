use Rattle.bhs_time.proofs.InTimeLogLemmas.{ascend_lemma}
use Rattle.bhs_time.proofs.laws.timed_logs_ascend.Goals as goal

pub returns : goal.returns
returns c = ascend_lemma
