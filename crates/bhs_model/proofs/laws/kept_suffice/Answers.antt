use Rattle.bhs_model.proofs.KeptLemmas.{kept_suffice_lemma}
use Rattle.bhs_model.proofs.laws.kept_suffice.Goals as goal

pub returns : goal.returns
returns c = kept_suffice_lemma
