use Rattle.bhs_match.proofs.LawLemmas.{logs_are_bounded_lemma}
use Rattle.bhs_match.proofs.laws.logs_are_bounded.Goals as goal

pub returns : goal.returns
returns c = logs_are_bounded_lemma
