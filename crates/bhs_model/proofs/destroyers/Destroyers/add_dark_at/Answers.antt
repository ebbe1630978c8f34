use Rattle.std.proofs.Common.{sym, ap, ◌∙◌}
use Rattle.bhs_model.proofs.NormalLemmas.{ends_more, added, passed}
use Rattle.bhs_model.proofs.destroyers.Destroyers.add_dark_at.Goals.{then-is_lesser_end+in_ok-push, else-is_lesser_end}
use Rattle.bhs_model.proofs.destroyers.Destroyers.add_dark_at.Goals as goal

pub loop-port-preserved : goal.loop-port-preserved
loop-port-preserved c = elim c.if-is_lesser_end.branch [
  | then-is_lesser_end+in_ok-push w ↦ added _ _ _ _ _ _ _ (c.args.node, c.loop-port.port)
      (ends_more c.args.node c.loop-port.port) c.loop-port.invariant
      (sym c.is_lesser_end.ensures ∙ w.if-is_lesser_end.true) w.in_ok-push.ensures.items (ap (λ v. v.items) w.ends-is)
  | else-is_lesser_end w ↦ passed _ _ _ _ _ _ (c.args.node, c.loop-port.port) (ends_more c.args.node c.loop-port.port)
      c.loop-port.invariant (sym c.is_lesser_end.ensures ∙ w.if-is_lesser_end.false) (ap (λ v. v.items) w.ends-is)
]
