use Rattle.bhs_net.specs.Network.{network_of}
use Rattle.bhs_net.specs.Filling.{index_of}
use Rattle.bhs_net.proofs.Fillings.{HasRows}
use Rattle.bhs_net.proofs.fast_rows.filled_rows.Given as goal

abbrev pub invariant-loop-node : goal.invariant-loop-node
invariant-loop-node l = HasRows l.links (index_of l.index) l.node (network_of l.rows.items)
