use Rattle.bhs_model.proofs.ClosedLemmas.{closed_means_lemma}
use Rattle.bhs_model.proofs.laws.closed_means.Goals as goal

pub returns : goal.returns
returns c = closed_means_lemma
