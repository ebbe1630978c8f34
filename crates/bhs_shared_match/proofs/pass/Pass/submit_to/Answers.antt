use Rattle.std.proofs.Common.{refl, sym, ap, ◌∙◌, arith}
use Rattle.bhs_shared_match.specs.Passes.{Passed}
use Rattle.bhs_shared_match.proofs.PassLemmas.{ordered_more}
use Rattle.bhs_shared_match.proofs.RoomLemmas.{room_left}
use Rattle.bhs_shared_match.proofs.ToldLemmas.{told_is, gain_is}
use Rattle.bhs_shared_match.proofs.pass.Pass.submit_to.Goals as goal

pub returns-in_default-place-clause-done : goal.returns-in_default-place-clause-done
returns-in_default-place-clause-done c =
    let e = c.apply-place.ensures in
    told_is _ _ _ _ _ _ _ _ _ _ _ c.self.view_is e.reply e.log (sym c.in_default-place.is ∙ e.place) e.same c.in-Some.is
    c.in_ok-text.ensures.spare c.spoken-reply.ensures (sym c.self.view_is)

pub returns-clause-done : goal.returns-clause-done
returns-clause-done c =
    let e = c.apply-place.ensures in
    told_is _ _ _ _ _ _ _ _ _ _ _ c.self.view_is e.reply e.log (sym c.in-Some-place.is ∙ e.place) e.same c.in-Some.is
    c.in_ok-text.ensures.spare c.spoken-reply.ensures
    (gain_is c.args.play.now c.apply-place.new.self _ _ _ _ _ _ _ _ _ _ _ _ refl refl e.reply c.in-Some.is
    c.in_ok-text.ensures.spare c.spoken-reply.ensures c.spoken.ensures
    c.push_reserved-2.ensures.items c.push_reserved.ensures.items)

pub push_reserved-requires : goal.push_reserved-requires
push_reserved-requires c =
    let few = room_left c.args.play.now _ c.args.self.now c.args.command _ _ c.self.view_is c.requires.room
    (sym c.in-Some-place.is ∙ c.apply-place.ensures.place) c.self.invariant.1.1 in
    omega (arith, few, c.self.invariant.0.1, c.self.inside.commands.ok)

pub push_reserved-requires-2 : goal.push_reserved-requires-2
push_reserved-requires-2 c =
    let few = room_left c.args.play.now _ c.args.self.now c.args.command _ _ c.self.view_is c.requires.room
    (sym c.in-Some-place.is ∙ c.apply-place.ensures.place) c.self.invariant.1.0 in
    omega (arith, few, c.self.inside.receipts.ok)

pub invariant_of-self : goal.invariant_of-self
invariant_of-self c = (
  ordered_more c.args.self.now _ _ _ _ _ _ _ _ _ _ _ _ _ _ _ _ _ c.self.invariant.0
      (ap (λ (pass : Passed). pass.receipts) c.self.view_is) c.requires.order
      (sym c.in-Some-place.is ∙ c.apply-place.ensures.place)
      refl refl c.spoken-reply.ensures c.spoken.ensures c.is_end.ensures
      c.push_reserved-2.ensures.items c.push_reserved.ensures.items,
  (
    rw c.push_reserved-2.ensures.capacity c.self.invariant.1.0,
    rw c.push_reserved.ensures.capacity c.self.invariant.1.1,
  ),
)
