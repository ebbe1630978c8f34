use Rattle.std.proofs.Common.{◌∙◌, ap, sym, List, length}
use Rattle.bhs_model.specs.declared.events.Event.TheVariants.{Close}
use Rattle.bhs_model.specs.declared.marks.Kept.{Kept}
use Rattle.bhs_model.specs.declared.setups.Setup.{Setup}
use Rattle.bhs_match.specs.Matches.{world_in}
use Rattle.bhs_shared_match.specs.Timing.{stamped_to}
use Rattle.bhs_shared_match.proofs.DrawLemmas.{legal_closed}
use Rattle.bhs_shared_match.proofs.TurnLemmas.{grows, has_room, have_turns}
use Rattle.bhs_shared_match.proofs.locked_match.LockedMatch.close.Goals as goal

pub stamp-requires : goal.stamp-requires
stamp-requires c = rw c.log-legal.ensures.log
    (has_room c.self.inside.play c.apply.new.self _ _ c.apply.ensures.same.1 c.self.invariant.1.1
    c.log-legal.ensures.bound)

pub invariant_of-self : goal.invariant_of-self
invariant_of-self c = (
  legal_closed _ _ _ _ c.self.invariant.0 c.apply.ensures.log c.apply.ensures.same
      (c.log-legal.ensures.kept, c.log-legal.ensures.replies),
  (
    c.self.invariant.1.0 ∙ sym (ap (λ (setup : Setup). setup.agents) c.apply.ensures.same.1),
    have_turns c.self.inside.play c.apply.new.self _ _ _ _ c.turn.result c.apply.ensures.same.1
        (grows (world_in c.self.inside.play) _ _ Close c.apply.result.mark c.apply.ensures.log)
        (c.stamp.ensures.items
        ∙ ap (λ (log : List Kept). stamped_to (length log) c.turn.result c.self.inside.turns.items)
        c.log-legal.ensures.log) c.stamp.ensures.capacity c.self.invariant.1.1,
  ),
)
