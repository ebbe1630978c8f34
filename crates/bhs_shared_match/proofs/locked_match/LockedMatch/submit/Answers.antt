use Rattle.std.proofs.Common.{sym, ◌∙◌, ap, List, length}
use Rattle.bhs_model.specs.declared.marks.Kept.{Kept}
use Rattle.bhs_shared_match.specs.LockedMatches.{LockedState}
use Rattle.bhs_shared_match.specs.Timing.{stamped_to}
use Rattle.bhs_shared_match.proofs.DrawLemmas.{length_told}
use Rattle.bhs_shared_match.proofs.TallyLemmas.{legal_unheard, legal_agreed, agents_told}
use Rattle.bhs_shared_match.proofs.RecordLemmas.{submitted}
use Rattle.bhs_shared_match.proofs.TurnLemmas.{has_room, told_setup, told_grows, have_turns}
use Rattle.bhs_shared_match.proofs.RoomLemmas.{at_err, room_agreed, wants}
use Rattle.bhs_shared_match.proofs.locked_match.LockedMatch.submit.Goals as goal

pub submit_to-requires-clause-room : goal.submit_to-requires-clause-room
submit_to-requires-clause-room c =
    room_agreed c.args.self.now c.self.inside.play c.args.pass.now c.args.command
    (ap (λ (inner : LockedState). inner.play) c.self.view_is) (sym c.agrees.ensures ∙ c.if-not-agrees.false)
    c.self.invariant.0.1

pub stamp-requires : goal.stamp-requires
stamp-requires c = rw c.log-legal.ensures.log
    (has_room c.self.inside.play c.submit_to.new.play _ _ (told_setup c.in_ok-step.ensures.done)
    c.self.invariant.1.1 c.log-legal.ensures.bound)

pub invariant_of-self-else-is_some : goal.invariant_of-self-else-is_some
invariant_of-self-else-is_some c = (
  legal_unheard _ _ _ _ _ _ _ _ _ c.self.invariant.0 c.in_ok-step.ensures.done (sym c.if-is_some.ensures),
  (
    c.self.invariant.1.0 ∙ sym (agents_told c.in_ok-step.ensures.done),
    have_turns c.self.inside.play c.submit_to.new.play _ _ _ _ c.turn.result (told_setup c.in_ok-step.ensures.done)
        (told_grows _ _ _ _ _ _ _ _ c.in_ok-step.ensures.done)
        (c.stamp.ensures.items
        ∙ ap (λ (log : List Kept). stamped_to (length log) c.turn.result c.self.inside.turns.items)
        c.log-legal.ensures.log) c.stamp.ensures.capacity c.self.invariant.1.1,
  ),
)

pub invariant_of-self-then-is_some : goal.invariant_of-self-then-is_some
invariant_of-self-then-is_some c =
    let same = ap (λ (inner : LockedState). inner.play) c.self.view_is in (
      rw (c.from.ensures, c.agent-agent.ensures, c.tally.ensures)
          (legal_agreed c.args.self.now _ _ _ _ _ _ _ _ _ same (sym c.agrees.ensures ∙ c.if-not-agrees.false)
          c.self.invariant.0 c.in_ok-step.ensures.done (sym c.if-is_some.ensures)
          (c.log-legal.ensures.kept, c.log-legal.ensures.replies)),
      (
        rw c.told.ensures (length_told _ _ c.self.inside.times ∙ c.self.invariant.1.0
            ∙ sym (agents_told c.in_ok-step.ensures.done)),
        have_turns c.self.inside.play c.submit_to.new.play _ _ _ _ c.turn.result
            (told_setup c.in_ok-step.ensures.done) (told_grows _ _ _ _ _ _ _ _ c.in_ok-step.ensures.done)
            (c.stamp.ensures.items
            ∙ ap (λ (log : List Kept). stamped_to (length log) c.turn.result c.self.inside.turns.items)
            c.log-legal.ensures.log) c.stamp.ensures.capacity c.self.invariant.1.1,
      ),
    )

pub returns-clause-submitted : goal.returns-clause-submitted
returns-clause-submitted c =
    let same = ap (λ (inner : LockedState). inner.play) c.self.view_is in
    submitted c.args.self.now _ _ _ _ _ _ _ _ same (sym c.agrees.ensures ∙ c.if-not-agrees.false) c.self.invariant.0.1
    c.receipts-order.ensures.order c.in_ok-step.ensures.done

pub returns-in_err-step-clause-wanting : goal.returns-in_err-step-clause-wanting
returns-in_err-step-clause-wanting c =
    at_err c.from_residual.result (wants _ c.args.self.now c.args.pass.now c.args.command c.self.view_is
    (sym c.agrees.ensures ∙ c.if-not-agrees.false) c.self.invariant.0.0 c.in_err-step.ensures.memory)
