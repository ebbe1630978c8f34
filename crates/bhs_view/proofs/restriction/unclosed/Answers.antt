use Rattle.std.proofs.Common.{◌-◌, length, sym, ap, ◌∙◌, refl, arith}
use Rattle.bhs_view.specs.Walks.{Needed}
use Rattle.bhs_view.proofs.BackLemmas.{length_marks, there}
use Rattle.bhs_view.proofs.ClosedLemmas.{judged_at_first, step_chosen, step_lacking, step_spared}
use Rattle.bhs_view.proofs.restriction.unclosed.Goals as goal

pub loop-place-init : goal.loop-place-init
loop-place-init c = record {
  agents = refl;
  nodes = refl;
  judged = judged_at_first c.args.log.now c.args.sites.now c.args.set.now c.args.needed _ c.requires.sites
      c.requires.set refl c.requires.needed;
}

pub add-requires : goal.add-requires
add-requires c =
    rw (c.loop-place.invariant.agents, c.loop-place.invariant.nodes, c.site_at-site.ensures)
    (there c.args.log.now c.args.sites.now _ _ (c.loop-place.place - 1) c.index-log-place.result c.requires.sites
    (omega arith) c.index-log-place.is c.requires.range).within

pub has-requires : goal.has-requires
has-requires c =
    rw (c.loop-place.invariant.agents, c.loop-place.invariant.nodes, c.site_at-site.ensures)
    (there c.args.log.now c.args.sites.now _ _ (c.loop-place.place - 1) c.index-log-place.result c.requires.sites
    (omega arith) c.index-log-place.is c.requires.range).within

pub loop-place-preserved-then-set-place : goal.loop-place-preserved-then-set-place
loop-place-preserved-then-set-place c = record {
  agents = ap (λ (needed : Needed). length needed.agents) c.add.ensures ∙ length_marks _ _
      ∙ c.loop-place.invariant.agents;
  nodes = ap (λ (needed : Needed). length needed.nodes) c.add.ensures ∙ length_marks _ _ ∙ c.loop-place.invariant.nodes;
  judged = step_chosen c.args.log.now c.args.sites.now c.args.set.now c.loop-place.needed _ (c.loop-place.place - 1)
      c.loop-place.place c.loop-place.least c.index-log-place.result
      (rw (c.loop-place.invariant.agents, c.loop-place.invariant.nodes)
      (there c.args.log.now c.args.sites.now _ _ (c.loop-place.place - 1) c.index-log-place.result c.requires.sites
      (omega arith) c.index-log-place.is c.requires.range))
      (omega arith) (omega (arith, c.requires.set)) c.if-set-place.true c.loop-place.invariant.judged
      (rw c.site_at-site.ensures at c.add.ensures);
}

pub loop-place-preserved-then-has : goal.loop-place-preserved-then-has
loop-place-preserved-then-has c = record {
  agents = c.loop-place.invariant.agents;
  nodes = c.loop-place.invariant.nodes;
  judged = step_lacking c.args.log.now c.args.sites.now c.args.set.now c.loop-place.needed (c.loop-place.place - 1)
      c.loop-place.place c.loop-place.least c.index-log-place.result
      (rw (c.loop-place.invariant.agents, c.loop-place.invariant.nodes)
      (there c.args.log.now c.args.sites.now _ _ (c.loop-place.place - 1) c.index-log-place.result c.requires.sites
      (omega arith) c.index-log-place.is c.requires.range))
      (omega arith) (omega (arith, c.requires.set)) c.if-set-place.false c.loop-place.invariant.judged
      (sym (rw c.site_at-site.ensures at c.has.ensures) ∙ c.if-has.true);
}

pub loop-place-preserved : goal.loop-place-preserved
loop-place-preserved c = record {
  agents = c.loop-place.invariant.agents;
  nodes = c.loop-place.invariant.nodes;
  judged = step_spared c.args.log.now c.args.sites.now c.args.set.now c.loop-place.needed (c.loop-place.place - 1)
      c.loop-place.place c.loop-place.least c.index-log-place.result
      (rw (c.loop-place.invariant.agents, c.loop-place.invariant.nodes)
      (there c.args.log.now c.args.sites.now _ _ (c.loop-place.place - 1) c.index-log-place.result c.requires.sites
      (omega arith) c.index-log-place.is c.requires.range))
      (omega arith) (omega (arith, c.requires.set)) c.if-set-place.false c.loop-place.invariant.judged
      (sym (rw c.site_at-site.ensures at c.has.ensures) ∙ c.if-has.false);
}
