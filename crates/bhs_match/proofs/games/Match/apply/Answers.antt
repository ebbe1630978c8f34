use Rattle.std.proofs.Common.{sym, ◌∙◌, subst, arith, IsSome}
use Rattle.bhs_match.proofs.ApplyLemmas.{ready, log_small, in_order_after, sites_after, count_sites, has_room_after}
use Rattle.bhs_match.proofs.games.Match.apply.Goals as goal

pub step-mark-requires-clause-room : goal.step-mark-requires-clause-room
step-mark-requires-clause-room c = let small = log_small _ _ _ _ c.self.invariant.0 in rw c.deref.ensures.value small

pub step-mark-requires-2-clause-room : goal.step-mark-requires-2-clause-room
step-mark-requires-2-clause-room c =
    let small = log_small _ _ _ _ c.self.invariant.0 in rw c.deref-2.ensures.value small

pub overflow_cast-place : goal.overflow_cast-place
overflow_cast-place c = let small = log_small _ _ _ _ c.self.invariant.0 in omega (arith, c.self.inside.log.ok)

pub settle-requires : goal.settle-requires
settle-requires c =
    let at_hand = ready _ _ _ _ _ _ _ _ _ c.self.invariant.0 c.deref-2.ensures.value c.step-mark-2.ensures.stands
    c.step-mark-2.ensures.same c.keeps.ensures c.if-not-keeps.false in
    record {
      room = λ outside inside.
          let few = at_hand.pool_room (sym c.link_by-was.ensures ∙ outside)
          (subst (λ link. IsSome link) c.link_by-now.ensures inside) in
          omega (arith, c.self.inside.pool.ok, c.self.invariant.1.1.pool);
    }

pub note-requires : goal.note-requires
note-requires c = (ready _ _ _ _ _ _ _ _ _ c.self.invariant.0 c.deref-2.ensures.value c.step-mark-2.ensures.stands
    c.step-mark-2.ensures.same c.keeps.ensures c.if-not-keeps.false).news_room

pub push_reserved-requires : goal.push_reserved-requires
push_reserved-requires c =
    let few = (ready _ _ _ _ _ _ _ _ _ c.self.invariant.0 c.deref-2.ensures.value c.step-mark-2.ensures.stands
    c.step-mark-2.ensures.same c.keeps.ensures c.if-not-keeps.false).log_room in
    omega (arith, c.self.inside.log.ok, c.self.invariant.1.1.log)

pub push_reserved-requires-2 : goal.push_reserved-requires-2
push_reserved-requires-2 c =
    let few = (ready _ _ _ _ _ _ _ _ _ c.self.invariant.0 c.deref-2.ensures.value c.step-mark-2.ensures.stands
    c.step-mark-2.ensures.same c.keeps.ensures c.if-not-keeps.false).log_room in
    let count = count_sites _ _ _ c.self.invariant.1.0 in
    omega (arith, c.self.inside.sites.ok, c.self.invariant.1.1.sites)

pub invariant_of-self-2 : goal.invariant_of-self-2
invariant_of-self-2 c =
    let at_hand = ready _ _ _ _ _ _ _ _ _ c.self.invariant.0 c.deref-2.ensures.value c.step-mark-2.ensures.stands
    c.step-mark-2.ensures.same c.keeps.ensures c.if-not-keeps.false in (
      in_order_after _ _ _ _ _ _ _ _ _ _ _ _ _ at_hand c.link_by-was.ensures c.link_by-now.ensures
          (omega (arith, c.self.inside.log.ok)) c.push_reserved.ensures.items c.settle.ensures.items c.note.ensures,
      (
        sites_after _ _ _ _ _ _ _ _ _ _ _ at_hand c.self.invariant.1.0 c.step-mark-2.ensures.same.0
            c.site_of-site.ensures.site
            c.site_of-site.ensures.range c.push_reserved.ensures.items c.push_reserved-2.ensures.items,
        has_room_after _ _ _ _ _ _ _ _ c.step-mark-2.ensures.same.1 c.push_reserved.ensures.capacity
            c.push_reserved-2.ensures.capacity c.settle.ensures.capacity c.self.invariant.1.1,
      ),
    )
