use Rattle.bhs_theorems_isolation.proofs.OfMatchLemmas.{matches_lemma}
use Rattle.bhs_theorems_isolation.proofs.scripts.matches_keep_to_themselves.Goals as goal

pub returns : goal.returns
returns c = matches_lemma
