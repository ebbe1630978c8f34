use Rattle.bhs_theorems_isolation.proofs.SameLemmas.{met_lemma}
use Rattle.bhs_theorems_isolation.proofs.rehearsals.met_as_past_and_commands.Goals as goal

pub returns : goal.returns
returns c = met_lemma
