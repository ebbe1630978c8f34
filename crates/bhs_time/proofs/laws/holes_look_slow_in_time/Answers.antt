use Rattle.bhs_time.proofs.SlowTimeLemmas.{slow_in_time_lemma}
use Rattle.bhs_time.proofs.laws.holes_look_slow_in_time.Goals as goal

pub returns : goal.returns
returns c = slow_in_time_lemma
