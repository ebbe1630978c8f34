use Rattle.bhs_theorems_isolation.proofs.ToldAllLemmas.{equal_bytes_lemma}
use Rattle.bhs_theorems_isolation.proofs.contests.equal_pasts_are_sent_equal_bytes.Goals as goal

pub returns : goal.returns
returns c = equal_bytes_lemma
