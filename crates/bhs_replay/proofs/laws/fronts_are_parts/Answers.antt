use Rattle.bhs_replay.proofs.FrontLemmas.{fronts_are_parts_lemma}
use Rattle.bhs_replay.proofs.laws.fronts_are_parts.Goals as goal

pub returns : goal.returns
returns c = fronts_are_parts_lemma
