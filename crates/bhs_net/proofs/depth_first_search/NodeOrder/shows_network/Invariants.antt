use Rattle.bhs_net.proofs.DepthFirstLemmas.{ArePlaced}
use Rattle.bhs_net.proofs.depth_first_search.NodeOrder.shows_network.Given as goal

abbrev pub invariant-loop-node : goal.invariant-loop-node
invariant-loop-node l = ArePlaced l.rows l.self.nodes l.self.places l.last l.node
