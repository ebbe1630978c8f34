use Rattle.bhs_replay.proofs.LinkLists.{one_node_more}
use Rattle.bhs_replay.proofs.links.links_of.Goals as goal

pub loop-node-preserved : goal.loop-node-preserved
loop-node-preserved c = one_node_more c.args.net.now c.loop-node.node _ _ c.loop-node.invariant
    c.in_ok-add_links_at.ensures
