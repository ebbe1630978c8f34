use Rattle.bhs_theorems_isolation.proofs.FeedLemmas.{cuts_lemma}
use Rattle.bhs_theorems_isolation.proofs.scripts.cuts_do_alike.Goals as goal

pub returns : goal.returns
returns c = cuts_lemma
