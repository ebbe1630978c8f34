use Rattle.bhs_theorems_isolation.proofs.ScriptLemmas.{grows}
use Rattle.bhs_theorems_isolation.proofs.scripts.scripts_grow.Goals as goal

pub returns : goal.returns
returns c = grows
