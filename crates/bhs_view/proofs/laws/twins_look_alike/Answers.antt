use Rattle.bhs_view.proofs.LawLemmas.{twins_look_alike_lemma}
use Rattle.bhs_view.proofs.laws.twins_look_alike.Goals as goal

pub returns : goal.returns
returns c = twins_look_alike_lemma
