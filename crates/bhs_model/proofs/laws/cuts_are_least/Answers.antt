use Rattle.bhs_model.proofs.LeastCutLemmas.{cuts_are_least_lemma}
use Rattle.bhs_model.proofs.laws.cuts_are_least.Goals as goal

pub returns : goal.returns
returns c = cuts_are_least_lemma
