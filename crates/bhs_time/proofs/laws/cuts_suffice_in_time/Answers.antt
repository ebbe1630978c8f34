use Rattle.bhs_time.proofs.CutTimeLemmas.{cuts_in_time_lemma}
use Rattle.bhs_time.proofs.laws.cuts_suffice_in_time.Goals as goal

pub returns : goal.returns
returns c = cuts_in_time_lemma
