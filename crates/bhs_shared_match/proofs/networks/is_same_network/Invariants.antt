use Rattle.std.proofs.Common.{◌≡◌, ℕ, ◌<◌}
use Rattle.bhs_net.specs.Network.{row_of}
use Rattle.bhs_shared_match.proofs.networks.is_same_network.Given as goal

abbrev pub invariant-loop-node : goal.invariant-loop-node
invariant-loop-node l = (node : ℕ) → node < l.node → row_of l.one node ≡ row_of l.two node
