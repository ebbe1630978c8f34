use Rattle.std.proofs.Common.{sym, ◌∙◌}
use Rattle.std.proofs.lemmas.List.{take_more}
use Rattle.bhs_world.proofs.JudgeLemmas.{hole_passes}
use Rattle.bhs_world.proofs.setup_checks.mark_holes.Goals as goal

pub loop-hole-preserved : goal.loop-hole-preserved
loop-hole-preserved c =
    let are = c.loop-hole.invariant.0 in (
      rw (take_more c.args.holes.now c.loop-hole.hole-index 0 c.loop-hole-test.true) (c.add_hole.ensures _ _ _ are),
      hole_passes _ _ c.args.holes.now c.loop-hole.hole-index _ c.loop-hole-test.true
          (rw (← c.nodes.ensures.count) (sym c.if-not-is_hole_fit.ensures))
          (sym (are.marked_nodes _) ∙ sym c.if-is_hole.ensures) c.loop-hole.invariant.1,
    )
