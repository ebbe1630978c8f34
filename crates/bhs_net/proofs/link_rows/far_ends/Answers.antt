use Rattle.std.proofs.Common.{◌≡◌, ◌<◌, ◌⊎◌, inl, inr, true, refl, sym, ◌∙◌, ap, length, arith, is_some}
use Rattle.std.specs.BTreeMap.{get}
use Rattle.bhs_net.specs.Links.{End, link_at, near_end, far_end}
use Rattle.bhs_net.specs.Listing.{end_cmp}
use Rattle.bhs_net.proofs.FarEnds.{KnowsEnds-none, KnowsEnds-more, IsPortTwice-first, MapsEnds-from_all}
use Rattle.bhs_net.proofs.FarEnds.{none_from_is_some}
use Rattle.bhs_net.proofs.link_rows.far_ends.Goals as goal
use Rattle.bhs_net.proofs.link_rows.far_ends.Goals.{then-contains_key-via-then-contains_key}
use Rattle.bhs_net.proofs.link_rows.far_ends.Goals.{then-contains_key-via-else-contains_key+then-contains_key-2}

pub loop-place-init : goal.loop-place-init
loop-place-init c = KnowsEnds-none c.args.links.now c.new-far_ends.result c.new-far_ends.ensures.empty

pub loop-place-preserved : goal.loop-place-preserved
loop-place-preserved c =
    let links = c.args.links.now in
    let link = link_at links c.loop-place.place in
    KnowsEnds-more links c.loop-place.place c.loop-place.far_ends c.insert.new.self c.insert-in-loop-place.new.self
    (near_end link) (far_end link) refl refl
    (λ same. c.requires c.loop-place.place (c.loop-place-test.true, ap (λ (e : End). e.0) same))
    c.loop-place.invariant
    (none_from_is_some _ (sym c.contains_key.ensures ∙ c.if-contains_key.false))
    (none_from_is_some _ (sym c.contains_key-else-contains_key.ensures ∙ c.if-contains_key-2.false))
    c.in_ok-insert.ensures.updates.0
    c.in_ok-insert-2.ensures.updates.0

pub returns-then-contains_key-clause-err : goal.returns-then-contains_key-clause-err
returns-then-contains_key-clause-err c =
    let links = c.args.links.now in
    let link = link_at links c.loop-place.place in
    let there : (is_some (get end_cmp c.loop-place.far_ends (near_end link)) ≡ true)
    ⊎ (is_some (get end_cmp c.loop-place.far_ends (far_end link)) ≡ true) =
    elim c.then-contains_key.branch [
      | then-contains_key-via-then-contains_key w ↦ inl (sym c.contains_key.ensures ∙ w.if-contains_key.true)
      | then-contains_key-via-else-contains_key+then-contains_key-2 w ↦
          inr (sym w.contains_key-else-contains_key.ensures ∙ w.if-contains_key-2.true)
    ] in
    inr (
      c.loop-place.place,
      refl,
      IsPortTwice-first links c.loop-place.place c.loop-place.far_ends
          c.loop-place.invariant c.loop-place-test.true there,
    )

pub returns-clause-once : goal.returns-clause-once
returns-clause-once c = λ place twice. c.loop-place.invariant.no_twice place
    (let at : place < length c.args.links.now = twice.0 in omega arith) twice

pub returns-clause-map : goal.returns-clause-map
returns-clause-map c = MapsEnds-from_all c.args.links.now c.loop-place.place c.loop-place.far_ends
    c.loop-place.invariant (omega arith)
