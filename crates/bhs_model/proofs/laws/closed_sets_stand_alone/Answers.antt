use Rattle.bhs_model.proofs.CutLemmas.{closed_sets_stand_alone_lemma}
use Rattle.bhs_model.proofs.laws.closed_sets_stand_alone.Goals as goal

pub returns : goal.returns
returns c = closed_sets_stand_alone_lemma
