use Rattle.bhs_time.proofs.LogTimeLemmas.{equal_waits_in_logs_lemma}
use Rattle.bhs_time.proofs.laws.equal_waits_in_logs.Goals as goal

pub returns : goal.returns
returns c = equal_waits_in_logs_lemma
