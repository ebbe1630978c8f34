use Rattle.bhs_view.proofs.LawLemmas.{holes_look_slow_lemma}
use Rattle.bhs_view.proofs.laws.holes_look_slow.Goals as goal

pub returns : goal.returns
returns c = holes_look_slow_lemma
