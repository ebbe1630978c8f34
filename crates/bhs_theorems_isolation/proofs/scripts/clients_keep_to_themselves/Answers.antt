use Rattle.bhs_theorems_isolation.proofs.ApartLemmas.{clients_lemma}
use Rattle.bhs_theorems_isolation.proofs.scripts.clients_keep_to_themselves.Goals as goal

pub returns : goal.returns
returns c = clients_lemma
