use Rattle.bhs_net.specs.Listing.{AreRowsOf}
use Rattle.bhs_net.specs.Network.{network_of}
use Rattle.bhs_net.proofs.link_rows.rows.Given as goal

abbrev pub invariant-loop-node : goal.invariant-loop-node
invariant-loop-node l = AreRowsOf l.far_ends l.node (network_of l.rows.items)
