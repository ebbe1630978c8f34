use Rattle.bhs_theorems_isolation.proofs.TimeExampleLemmas.{spoken_lemma}
use Rattle.bhs_theorems_isolation.proofs.contests.worked_walk.Goals as goal

pub returns : goal.returns
returns c = spoken_lemma
