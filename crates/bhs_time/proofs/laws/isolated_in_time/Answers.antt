use Rattle.bhs_time.proofs.StandLemmas.{isolated_lemma}
use Rattle.bhs_time.proofs.laws.isolated_in_time.Goals as goal

pub returns : goal.returns
returns c = isolated_lemma
