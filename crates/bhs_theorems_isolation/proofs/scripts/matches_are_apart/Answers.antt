use Rattle.bhs_theorems_isolation.proofs.ScriptIsolationLemmas.{apart_lemma, unheard_lemma}
use Rattle.bhs_theorems_isolation.proofs.scripts.matches_are_apart.Goals as goal

pub returns : goal.returns
returns c = record { worlds = apart_lemma; scripts = unheard_lemma }
