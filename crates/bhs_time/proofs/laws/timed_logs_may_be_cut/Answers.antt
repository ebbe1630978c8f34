use Rattle.bhs_time.proofs.TimedLogLemmas.{may_be_cut_lemma}
use Rattle.bhs_time.proofs.laws.timed_logs_may_be_cut.Goals as goal

pub returns : goal.returns
returns c = may_be_cut_lemma
