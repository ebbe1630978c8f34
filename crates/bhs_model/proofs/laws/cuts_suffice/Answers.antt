use Rattle.bhs_model.proofs.SufficeLemmas.{cuts_suffice_lemma}
use Rattle.bhs_model.proofs.laws.cuts_suffice.Goals as goal

pub returns : goal.returns
returns c = cuts_suffice_lemma
