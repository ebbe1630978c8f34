use Rattle.bhs_theorems_isolation.proofs.SettledLemmas.{rest_lemma}
use Rattle.bhs_theorems_isolation.proofs.SettlingLemmas.{all_taken_lemma, settle_lemma, scripts_lemma}
use Rattle.bhs_theorems_isolation.proofs.scripts.stages_settle.Goals as goal

pub returns : goal.returns
returns c = record { step = settle_lemma; script = scripts_lemma; rest = rest_lemma; all_taken = all_taken_lemma }
