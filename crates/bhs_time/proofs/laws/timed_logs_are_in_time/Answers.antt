use Rattle.bhs_time.proofs.InTimeLogLemmas.{in_time_lemma}
use Rattle.bhs_time.proofs.laws.timed_logs_are_in_time.Goals as goal

pub returns : goal.returns
returns c = in_time_lemma
