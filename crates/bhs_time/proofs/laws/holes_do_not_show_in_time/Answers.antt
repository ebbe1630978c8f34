use Rattle.bhs_time.proofs.HoleLemmas.{holes_lemma}
use Rattle.bhs_time.proofs.laws.holes_do_not_show_in_time.Goals as goal

pub returns : goal.returns
returns c = holes_lemma
