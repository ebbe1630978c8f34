use Rattle.bhs_net.proofs.TreeLemmas.{AllHang}
use Rattle.bhs_net.proofs.depth_first_search.DepthFirst.is_tree.Given as goal

abbrev pub invariant-loop-node : goal.invariant-loop-node
invariant-loop-node l = AllHang l.rows l.self l.node
