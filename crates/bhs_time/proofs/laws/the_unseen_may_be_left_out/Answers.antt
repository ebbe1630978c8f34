use Rattle.bhs_time.proofs.LeavingLemmas.{leaving_lemma}
use Rattle.bhs_time.proofs.laws.the_unseen_may_be_left_out.Goals as goal

pub returns : goal.returns
returns c = leaving_lemma
