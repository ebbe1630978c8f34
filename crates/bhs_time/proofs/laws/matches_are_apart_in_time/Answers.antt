use Rattle.bhs_time.proofs.ContestLemmas.{apart_in_time_lemma}
use Rattle.bhs_time.proofs.laws.matches_are_apart_in_time.Goals as goal

pub returns : goal.returns
returns c = apart_in_time_lemma
