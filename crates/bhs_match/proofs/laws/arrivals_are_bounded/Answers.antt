use Rattle.bhs_match.proofs.LawLemmas.{arrivals_are_bounded_lemma}
use Rattle.bhs_match.proofs.laws.arrivals_are_bounded.Goals as goal

pub returns : goal.returns
returns c = arrivals_are_bounded_lemma
