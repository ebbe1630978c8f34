use Rattle.std.proofs.Common.{refl}
use Rattle.bhs_referee.proofs.RestLemmas.{decided_done, verdicts_stand_lemma}
use Rattle.bhs_referee.proofs.laws.verdicts_stand.Goals as goal

pub returns-clause-stand : goal.returns-clause-stand
returns-clause-stand c = verdicts_stand_lemma

pub returns-clause-decided : goal.returns-clause-decided
returns-clause-decided c = decided_done

pub returns-clause-given : goal.returns-clause-given
returns-clause-given c = λ play. refl
