use Rattle.std.proofs.Common.{sym, ap, ◌∙◌, []}
use Rattle.bhs_model.proofs.NormalLemmas.{range_more, added, passed}
use Rattle.bhs_model.proofs.destroyers.Destroyers.holes.Goals.{then-is_hole+in_ok-push, else-is_hole}
use Rattle.bhs_model.proofs.destroyers.Destroyers.holes.Goals as goal

pub loop-node-preserved : goal.loop-node-preserved
loop-node-preserved c = elim c.if-is_hole.branch [
  | then-is_hole+in_ok-push w ↦ added _ _ _ _ _ _ [] c.loop-node.node (range_more c.loop-node.node)
      c.loop-node.invariant (sym c.is_hole.ensures ∙ w.if-is_hole.true) w.in_ok-push.ensures.items
      (ap (λ v. v.items) w.nodes-is)
  | else-is_hole w ↦ passed _ _ _ _ _ [] c.loop-node.node (range_more c.loop-node.node) c.loop-node.invariant
      (sym c.is_hole.ensures ∙ w.if-is_hole.false) (ap (λ v. v.items) w.nodes-is)
]
