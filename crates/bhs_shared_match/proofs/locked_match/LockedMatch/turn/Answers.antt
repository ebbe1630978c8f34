use Rattle.std.proofs.Common.{◌∙◌, ap, sym, List, length}
use Rattle.bhs_model.specs.declared.marks.Kept.{Kept}
use Rattle.bhs_deliveries.specs.Links.{held_in}
use Rattle.bhs_shared_match.specs.Timing.{stamped_to}
use Rattle.bhs_shared_match.proofs.DrawLemmas.{legal_turned, agents_played, length_turned}
use Rattle.bhs_shared_match.proofs.TurnLemmas.{grows_if, setup_played, has_room, have_turns}
use Rattle.bhs_shared_match.proofs.locked_match.LockedMatch.turn.Goals as goal

pub stamp-requires : goal.stamp-requires
stamp-requires c = rw c.log-legal.ensures.log
    (has_room c.self.inside.play c.deliver_by-drawn.new.play _ _
    (setup_played c.self.inside.play _ _ c.deliver_by-drawn.ensures.played) c.self.invariant.1.1
    c.log-legal.ensures.bound)

pub invariant_of-self : goal.invariant_of-self
invariant_of-self c = (
  legal_turned c.args.schedule (held_in c.args.held.now) c.self.inside.play _ c.self.inside.times _ _
      c.self.invariant.0 c.deliver_by-drawn.ensures.played (c.log-legal.ensures.kept, c.log-legal.ensures.replies),
  (
    rw c.pass.ensures (length_turned _ c.self.inside.times ∙ c.self.invariant.1.0
        ∙ sym (agents_played c.self.inside.play _ _ c.deliver_by-drawn.ensures.played)),
    have_turns c.self.inside.play c.deliver_by-drawn.new.play _ _ _ _ c.turn.result
        (setup_played c.self.inside.play _ _ c.deliver_by-drawn.ensures.played)
        (grows_if c.self.inside.play _ _ c.deliver_by-drawn.ensures.played)
        (c.stamp.ensures.items
        ∙ ap (λ (log : List Kept). stamped_to (length log) c.turn.result c.self.inside.turns.items)
        c.log-legal.ensures.log) c.stamp.ensures.capacity c.self.invariant.1.1,
  ),
)
