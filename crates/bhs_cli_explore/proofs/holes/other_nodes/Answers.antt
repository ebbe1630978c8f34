use Rattle.std.proofs.Common.{ap, []}
use Rattle.std.proofs.lemmas.Bool.{eq-eqb, ne_eqb, not_from_false, not_from_true}
use Rattle.bhs_model.proofs.NormalLemmas.{range_more, added, passed}
use Rattle.bhs_cli_explore.proofs.holes.other_nodes.Goals.{then-node-home+in_ok-push, else-node-home}
use Rattle.bhs_cli_explore.proofs.holes.other_nodes.Goals as goal

pub loop-node-preserved : goal.loop-node-preserved
loop-node-preserved c = elim c.if-node-home.branch [
  | then-node-home+in_ok-push w ↦ added _ _ _ _ _ _ [] c.loop-node.node (range_more c.loop-node.node)
      c.loop-node.invariant (not_from_false _ (ne_eqb _ _ w.if-node-home.true)) w.in_ok-push.ensures.items
      (ap (λ v. v.items) w.nodes-is)
  | else-node-home w ↦ passed _ _ _ _ _ [] c.loop-node.node (range_more c.loop-node.node) c.loop-node.invariant
      (not_from_true _ (eq-eqb _ _ w.if-node-home.false)) (ap (λ v. v.items) w.nodes-is)
]
