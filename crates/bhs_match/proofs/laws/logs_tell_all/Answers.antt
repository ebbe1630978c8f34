use Rattle.bhs_match.proofs.LawLemmas.{logs_tell_all_lemma}
use Rattle.bhs_match.proofs.laws.logs_tell_all.Goals as goal

pub returns : goal.returns
returns c = logs_tell_all_lemma
