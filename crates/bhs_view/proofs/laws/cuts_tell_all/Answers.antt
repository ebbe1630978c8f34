use Rattle.bhs_view.proofs.LawLemmas.{cuts_tell_all_lemma}
use Rattle.bhs_view.proofs.laws.cuts_tell_all.Goals as goal

pub returns : goal.returns
returns c = cuts_tell_all_lemma
