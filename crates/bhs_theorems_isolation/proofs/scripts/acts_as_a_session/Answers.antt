use Rattle.std.proofs.Common.{refl}
use Rattle.bhs_theorems_isolation.proofs.OneMachineLemmas.{first_lemma, items_lemma, news_lemma}
use Rattle.bhs_theorems_isolation.proofs.scripts.acts_as_a_session.Goals as goal

pub returns : goal.returns
returns c = record { first = first_lemma; items = items_lemma; arrivals = news_lemma; closes = refl }
