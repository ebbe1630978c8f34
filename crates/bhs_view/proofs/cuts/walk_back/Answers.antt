use Rattle.std.proofs.Common.{◌-◌, length, sym, ap, ◌∙◌, arith, refl}
use Rattle.bhs_view.specs.Walks.{Needed}
use Rattle.bhs_view.proofs.BackLemmas.{length_marks, there, step_chosen, step_omitted, back_at_first}
use Rattle.bhs_view.proofs.cuts.walk_back.Goals as goal

pub loop-place-init : goal.loop-place-init
loop-place-init c = record {
  agents = refl;
  nodes = refl;
  looks = omega arith;
  back = back_at_first c.args.log.now c.args.sites.now c.args.needed c.args.agent _ _ c.requires.sites refl
      c.new-places.ensures.items c.requires.needed;
}

pub has-requires : goal.has-requires
has-requires c =
    rw (c.loop-place.invariant.agents, c.loop-place.invariant.nodes, c.site_at-site.ensures)
    (there c.args.log.now c.args.sites.now _ _ (c.loop-place.place - 1) c.index-log-place.result c.requires.sites
    (omega arith) c.index-log-place.is c.requires.range).within

pub add-requires : goal.add-requires
add-requires c =
    rw (c.loop-place.invariant.agents, c.loop-place.invariant.nodes, c.site_at-site.ensures)
    (there c.args.log.now c.args.sites.now _ _ (c.loop-place.place - 1) c.index-log-place.result c.requires.sites
    (omega arith) c.index-log-place.is c.requires.range).within

pub loop-place-preserved-in-Continue-1 : goal.loop-place-preserved-in-Continue-1
loop-place-preserved-in-Continue-1 c = record {
  agents = ap (λ (needed : Needed). length needed.agents) c.add.ensures ∙ length_marks _ _
      ∙ c.loop-place.invariant.agents;
  nodes = ap (λ (needed : Needed). length needed.nodes) c.add.ensures ∙ length_marks _ _ ∙ c.loop-place.invariant.nodes;
  looks = omega (arith, c.loop-place.invariant.looks);
  back = step_chosen c.args.log.now c.args.sites.now c.loop-place.needed _ c.args.agent (c.loop-place.place - 1)
      c.loop-place.place c.loop-place.places.items _ c.index-log-place.result
      (rw (c.loop-place.invariant.agents, c.loop-place.invariant.nodes)
      (there c.args.log.now c.args.sites.now _ _ (c.loop-place.place - 1) c.index-log-place.result c.requires.sites
      (omega arith) c.index-log-place.is c.requires.range))
      (omega arith) c.loop-place.invariant.back (sym c.if-has.true ∙ (rw c.site_at-site.ensures at c.has.ensures))
      (rw c.site_at-site.ensures at c.add.ensures)
      c.in_ok-push.ensures.items;
}

pub loop-place-preserved : goal.loop-place-preserved
loop-place-preserved c = record {
  agents = c.loop-place.invariant.agents;
  nodes = c.loop-place.invariant.nodes;
  looks = omega (arith, c.loop-place.invariant.looks);
  back = step_omitted c.args.log.now c.args.sites.now c.loop-place.needed c.args.agent (c.loop-place.place - 1)
      c.loop-place.place c.loop-place.places.items c.index-log-place.result
      (rw (c.loop-place.invariant.agents, c.loop-place.invariant.nodes)
      (there c.args.log.now c.args.sites.now _ _ (c.loop-place.place - 1) c.index-log-place.result c.requires.sites
      (omega arith) c.index-log-place.is c.requires.range))
      (omega arith) c.loop-place.invariant.back (sym c.if-has.false ∙ (rw c.site_at-site.ensures at c.has.ensures));
}
