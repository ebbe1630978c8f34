use Rattle.bhs_theorems_isolation.proofs.SameLemmas.{bytes_lemma}
use Rattle.bhs_theorems_isolation.proofs.rehearsals.equal_pasts_are_sent_equal_bytes.Goals as goal

pub returns : goal.returns
returns c = bytes_lemma
