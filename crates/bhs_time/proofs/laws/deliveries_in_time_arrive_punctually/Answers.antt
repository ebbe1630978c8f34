use Rattle.bhs_time.proofs.LogTimeLemmas.{punctual_lemma}
use Rattle.bhs_time.proofs.laws.deliveries_in_time_arrive_punctually.Goals as goal

pub returns : goal.returns
returns c = punctual_lemma
