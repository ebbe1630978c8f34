use Rattle.std.proofs.Common.{sym, ap, ◌∙◌, []}
use Rattle.bhs_model.proofs.NormalLemmas.{range_more, added, passed}
use Rattle.bhs_view.proofs.twins.moved_holes.Goals.{then-is_moved+in_ok-push, else-is_moved}
use Rattle.bhs_view.proofs.twins.moved_holes.Goals as goal

pub loop-node-preserved : goal.loop-node-preserved
loop-node-preserved c = elim c.if-is_moved.branch [
  | then-is_moved+in_ok-push w ↦ added _ _ _ _ _ _ [] c.loop-node.node (range_more c.loop-node.node)
      c.loop-node.invariant (sym c.is_moved.ensures ∙ w.if-is_moved.true) w.in_ok-push.ensures.items
      (ap (λ v. v.items) w.nodes-is)
  | else-is_moved w ↦ passed _ _ _ _ _ [] c.loop-node.node (range_more c.loop-node.node) c.loop-node.invariant
      (sym c.is_moved.ensures ∙ w.if-is_moved.false) (ap (λ v. v.items) w.nodes-is)
]
