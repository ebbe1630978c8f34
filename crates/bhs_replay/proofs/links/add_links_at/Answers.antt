use Rattle.std.proofs.Common.{◌≡◌, ◌≤◌, ℕ, [], ◌∷◌, ◌++◌, true, false, nat_lt, subst, ap, ◌∙◌, arith}
use Rattle.std.proofs.lemmas.Bool.{lt-ltb}
use Rattle.bhs_net.specs.declared.links.Link.{Link}
use Rattle.bhs_replay.proofs.LinkLists.{one_link_more, no_link_more}
use Rattle.bhs_replay.proofs.links.add_links_at.Goals.{then-node-w+in_ok-push, else-node-w}
use Rattle.bhs_replay.proofs.links.add_links_at.Goals as goal

not_below : (a b : ℕ) → b ≤ a → nat_lt a b ≡ false
not_below a b h = grind arith

pub loop-port-preserved : goal.loop-port-preserved
loop-port-preserved c =
    let net = c.args.net.now in
    let node : ℕ = c.args.node in
    let port : ℕ = c.loop-port.port in
    let made : ℕ × ℕ → Link = λ e. record { v = node; p = port; w = e.0; q = e.1 } in
    elim c.if-node-w.branch [
      | then-node-w+in_ok-push w ↦ one_link_more net node port _ _ c.loop-port.invariant _
          (subst (λ (e : ℕ × ℕ). nat_lt node e.0 ≡ true) c.far-w.ensures.end (lt-ltb _ _ w.if-node-w.true))
          (ap (λ v. v.items) w.links-is ∙ w.in_ok-push.ensures.items
          ∙ ap (λ (e : ℕ × ℕ). c.loop-port.links.items ++ made e ∷ []) c.far-w.ensures.end)
      | else-node-w w ↦ no_link_more net node port _ _ c.loop-port.invariant _
          (subst (λ (e : ℕ × ℕ). nat_lt node e.0 ≡ false) c.far-w.ensures.end (not_below _ _ w.if-node-w.false))
          (ap (λ v. v.items) w.links-is)
    ]
