use Rattle.std.proofs.lemmas.List.{map-append}
use Rattle.bhs_net.proofs.Rows.{AreRowsOf-none, AreRowsOf-more}
use Rattle.bhs_net.proofs.link_rows.rows.Goals as goal

pub loop-node-init : goal.loop-node-init
loop-node-init c = rw c.new-rows.ensures.items (AreRowsOf-none c.args.far_ends.now)

pub loop-node-preserved : goal.loop-node-preserved
loop-node-preserved c =
    rw (c.in_ok-push.ensures.items, map-append)
    (AreRowsOf-more c.args.far_ends.now c.loop-node.node _ c.in_ok-row.field-0.items c.loop-node.invariant
    c.in_ok-row.ensures)
