use Rattle.bhs_match.proofs.LawLemmas.{logs_grow_lemma}
use Rattle.bhs_match.proofs.laws.logs_grow.Goals as goal

pub returns : goal.returns
returns c = logs_grow_lemma
