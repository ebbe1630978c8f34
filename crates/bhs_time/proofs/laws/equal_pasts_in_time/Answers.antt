use Rattle.bhs_time.proofs.StandLemmas.{equal_pasts_in_time_lemma}
use Rattle.bhs_time.proofs.laws.equal_pasts_in_time.Goals as goal

pub returns : goal.returns
returns c = equal_pasts_in_time_lemma
