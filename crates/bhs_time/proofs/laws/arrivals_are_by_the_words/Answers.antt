use Rattle.bhs_time.proofs.TimelyLemmas.{arrivals_lemma}
use Rattle.bhs_time.proofs.laws.arrivals_are_by_the_words.Goals as goal

pub returns : goal.returns
returns c = arrivals_lemma
