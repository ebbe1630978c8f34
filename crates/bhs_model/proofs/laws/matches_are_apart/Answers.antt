use Rattle.bhs_model.proofs.ArenaLemmas.{matches_are_apart_lemma}
use Rattle.bhs_model.proofs.laws.matches_are_apart.Goals as goal

pub returns : goal.returns
returns c = matches_are_apart_lemma
