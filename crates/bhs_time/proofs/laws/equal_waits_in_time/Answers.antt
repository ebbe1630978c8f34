use Rattle.bhs_time.proofs.WaitLemmas.{equal_waits_lemma}
use Rattle.bhs_time.proofs.laws.equal_waits_in_time.Goals as goal

pub returns : goal.returns
returns c = equal_waits_lemma
