use Rattle.bhs_theorems_isolation.proofs.FeedLemmas.{two_pieces_lemma}
use Rattle.bhs_theorems_isolation.proofs.scripts.two_pieces_do_alike.Goals as goal

pub returns : goal.returns
returns c = two_pieces_lemma
