use Rattle.std.proofs.Common.{ℕ, ◌<◌}
use Rattle.bhs_net.specs.Network.{AreJoinedWithout}
use Rattle.bhs_net.specs.Network.{network_of}
use Rattle.bhs_net.proofs.search.check_paths.Given as goal

abbrev pub invariant-loop-node : goal.invariant-loop-node
invariant-loop-node l = (cut : ℕ) → cut < l.node → AreJoinedWithout (network_of l.rows) cut
