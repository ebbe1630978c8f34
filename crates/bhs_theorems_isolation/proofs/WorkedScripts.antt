-- The worked scripts, by computing.
use Rattle.std.proofs.Common.{zero, suc, refl, arith}
use Rattle.bhs_wire.proofs.OnLiterals.{bhs_wire_on_literals}
use Rattle.bhs_theorems_isolation.specs.ScriptLaws.{HoldsAsWell}
use Rattle.bhs_theorems_isolation.proofs.SlowGameLemmas.{begin_lemma}
use Rattle.bhs_theorems_isolation.specs.ScriptExamples.{AKeyLetsIn, ALineMayComeInPieces}
use Rattle.bhs_theorems_isolation.specs.ScriptExamples.{TheBlackHoleIsSilent, HeldLinksSendTheSame}
use Rattle.bhs_theorems_isolation.specs.ScriptExamples.{TheSlowTriangleIsSlow, triangle, slow, LinesWaitForTheArrival}
use Rattle.bhs_theorems_isolation.specs.ScriptExamples.{TheSecondWriterSeesTheFirst, TheQuotaIsSpent}
use Rattle.bhs_theorems_isolation.specs.ScriptExamples.{AStrangeKeyIsDenied}
use Rattle.bhs_theorems_isolation.specs.ScriptExamples.{AUsedKeyIsDenied, AFirstLookIsDenied, ThePresentAreToldLater}
use Rattle.bhs_theorems_isolation.specs.ScriptExamples.{AnEndWaitsForTheArrival, TheAgentOfAnEndLeaves}
use Rattle.bhs_theorems_isolation.specs.ScriptExamples.{TheOtherMatchIsNotHeard}
use Rattle.bhs_theorems_isolation.specs.ScriptExamples.{WhatIsNotThereDoesNothing}

pub a_key_lets_in : AKeyLetsIn
unfolding bhs_wire_on_literals
a_key_lets_in = refl

pub a_line_may_come_in_pieces : ALineMayComeInPieces
unfolding bhs_wire_on_literals
a_line_may_come_in_pieces = refl

pub the_black_hole_is_silent : TheBlackHoleIsSilent
unfolding bhs_wire_on_literals
the_black_hole_is_silent = refl

pub held_links_send_the_same : HeldLinksSendTheSame
unfolding bhs_wire_on_literals
held_links_send_the_same = refl

pub lines_wait_for_the_arrival : LinesWaitForTheArrival
unfolding bhs_wire_on_literals
lines_wait_for_the_arrival = refl

pub the_second_writer_sees_the_first : TheSecondWriterSeesTheFirst
unfolding bhs_wire_on_literals
the_second_writer_sees_the_first = refl

pub the_quota_is_spent : TheQuotaIsSpent
unfolding bhs_wire_on_literals
the_quota_is_spent = refl

pub a_strange_key_is_denied : AStrangeKeyIsDenied
unfolding bhs_wire_on_literals
a_strange_key_is_denied = refl

pub a_used_key_is_denied : AUsedKeyIsDenied
unfolding bhs_wire_on_literals
a_used_key_is_denied = refl

pub a_first_look_is_denied : AFirstLookIsDenied
unfolding bhs_wire_on_literals
a_first_look_is_denied = refl

pub the_present_are_told_later : ThePresentAreToldLater
unfolding bhs_wire_on_literals
the_present_are_told_later = refl

pub an_end_waits_for_the_arrival : AnEndWaitsForTheArrival
unfolding bhs_wire_on_literals
an_end_waits_for_the_arrival = refl

pub the_agent_of_an_end_leaves : TheAgentOfAnEndLeaves
unfolding bhs_wire_on_literals
the_agent_of_an_end_leaves = refl

pub the_other_match_is_not_heard : TheOtherMatchIsNotHeard
unfolding bhs_wire_on_literals
the_other_match_is_not_heard = refl

pub what_is_not_there_does_nothing : WhatIsNotThereDoesNothing
unfolding bhs_wire_on_literals
what_is_not_there_does_nothing = (refl, refl)

-- the links into node 2 are held
slow_holds : HoldsAsWell triangle slow.held
slow_holds zero zero below = refl
slow_holds zero (suc zero) below = refl
slow_holds zero (suc (suc port)) below = absurd (omega arith)
slow_holds (suc zero) zero below = refl
slow_holds (suc zero) (suc zero) below = refl
slow_holds (suc zero) (suc (suc port)) below = absurd (omega arith)
slow_holds (suc (suc zero)) zero below = refl
slow_holds (suc (suc zero)) (suc zero) below = refl
slow_holds (suc (suc zero)) (suc (suc port)) below = absurd (omega arith)
slow_holds (suc (suc (suc node))) port below = absurd (omega arith)

pub the_slow_triangle_is_slow : TheSlowTriangleIsSlow
the_slow_triangle_is_slow = begin_lemma triangle slow.held refl slow_holds
