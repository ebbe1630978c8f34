use Rattle.bhs_model.proofs.PastLemmas.{equal_pasts_lemma}
use Rattle.bhs_model.proofs.laws.equal_pasts.Goals as goal

pub returns : goal.returns
returns c = equal_pasts_lemma
