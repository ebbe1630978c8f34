use Rattle.bhs_model.proofs.FitLemmas.{pasts_fit_positions_lemma}
use Rattle.bhs_model.proofs.laws.pasts_fit_positions.Goals as goal

pub returns : goal.returns
returns c = pasts_fit_positions_lemma
