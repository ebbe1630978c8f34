use Rattle.std.proofs.Common.{◌≤◌, ◌⊎◌, inl, inr, refl}
use Rattle.bhs_net.specs.Links.{link_at}
use Rattle.bhs_net.proofs.link_rows.check_ends.Goals as goal
use Rattle.bhs_net.proofs.link_rows.check_ends.Goals.{then-link-nodes-via-then-link-nodes}
use Rattle.bhs_net.proofs.link_rows.check_ends.Goals.{then-link-nodes-via-else-link-nodes+then-link-nodes-2}

pub returns-then-link-nodes-clause-err : goal.returns-then-link-nodes-clause-err
returns-then-link-nodes-clause-err c =
    let stray : (c.args.nodes ≤ (link_at c.args.links.now c.loop-place.place).v)
    ⊎ (c.args.nodes ≤ (link_at c.args.links.now c.loop-place.place).w) =
    elim c.then-link-nodes.branch [
      | then-link-nodes-via-then-link-nodes w ↦ inl w.if-link-nodes.true
      | then-link-nodes-via-else-link-nodes+then-link-nodes-2 w ↦ inr w.if-link-nodes-2.true
    ] in
    (c.loop-place.place, refl, ((c.loop-place-test.true, stray), c.loop-place.invariant))
