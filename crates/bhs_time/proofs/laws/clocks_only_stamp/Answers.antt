use Rattle.bhs_time.proofs.StampLemmas.{clocks_only_stamp_lemma}
use Rattle.bhs_time.proofs.laws.clocks_only_stamp.Goals as goal

pub returns : goal.returns
returns c = clocks_only_stamp_lemma
