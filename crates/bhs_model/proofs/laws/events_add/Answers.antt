use Rattle.bhs_model.proofs.AddLemmas.{events_add_lemma}
use Rattle.bhs_model.proofs.laws.events_add.Goals as goal

pub returns : goal.returns
returns c = events_add_lemma
