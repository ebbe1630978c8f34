use Rattle.bhs_view.proofs.LawLemmas.{equal_pasts_lemma}
use Rattle.bhs_view.proofs.laws.equal_pasts.Goals as goal

pub returns : goal.returns
returns c = equal_pasts_lemma
