use Rattle.bhs_net.proofs.Fillings.{HasPorts-more}
use Rattle.bhs_net.proofs.fast_rows.filled_row.Goals as goal

pub loop-port-preserved : goal.loop-port-preserved
loop-port-preserved c =
    rw c.in_ok-push-in-Some.ensures.items
    (HasPorts-more c.args.links.now c.args.node c.loop-port.port c.loop-port.row.items c.in-Some.end
    c.in-Some.ensures c.loop-port.invariant)
