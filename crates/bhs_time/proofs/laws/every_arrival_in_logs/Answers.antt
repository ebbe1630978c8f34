use Rattle.bhs_time.proofs.LogTimeLemmas.{every_arrival_lemma}
use Rattle.bhs_time.proofs.laws.every_arrival_in_logs.Goals as goal

pub returns : goal.returns
returns c = every_arrival_lemma
