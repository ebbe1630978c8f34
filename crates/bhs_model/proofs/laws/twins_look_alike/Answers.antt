use Rattle.bhs_model.proofs.TwinLemmas.{twins_look_alike_lemma}
use Rattle.bhs_model.proofs.laws.twins_look_alike.Goals as goal

pub returns : goal.returns
returns c = twins_look_alike_lemma
