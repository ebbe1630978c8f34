use Rattle.bhs_theorems_isolation.proofs.MetLemmas.{others_lemma, sent_as_met_lemma}
use Rattle.bhs_theorems_isolation.proofs.rehearsals.sent_as_met.Goals as goal

pub returns : goal.returns
returns c = record { sent = sent_as_met_lemma; others = others_lemma }
