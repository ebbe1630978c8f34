use Rattle.bhs_theorems_isolation.proofs.CallLemmas.{called_lemma}
use Rattle.bhs_theorems_isolation.proofs.rehearsals.equal_pasts_are_answered_alike.Goals as goal

pub returns : goal.returns
returns c = called_lemma
