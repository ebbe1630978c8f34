use Rattle.bhs_time.proofs.LogTimeLemmas.{met_lemma}
use Rattle.bhs_time.proofs.laws.turns_say_what_was_met.Goals as goal

pub returns : goal.returns
returns c = met_lemma
