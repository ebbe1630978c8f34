use Rattle.bhs_theorems_isolation.proofs.OwnAppealLemmas.{own_appeals_lemma}
use Rattle.bhs_theorems_isolation.proofs.appeals.own_matches_stand_their_appeal.Goals as goal

pub returns : goal.returns
returns c = own_appeals_lemma
