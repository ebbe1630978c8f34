use Rattle.bhs_theorems_isolation.proofs.ContestMetLemmas.{sent_as_met_lemma}
use Rattle.bhs_theorems_isolation.proofs.contests.sent_as_met.Goals as goal

pub returns : goal.returns
returns c = sent_as_met_lemma
