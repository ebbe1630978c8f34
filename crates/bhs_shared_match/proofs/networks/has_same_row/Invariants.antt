use Rattle.std.proofs.Common.{◌≡◌, ℕ, ◌<◌}
use Rattle.bhs_net.specs.Network.{far_of}
use Rattle.bhs_shared_match.proofs.networks.has_same_row.Given as goal

abbrev pub invariant-loop-port : goal.invariant-loop-port
invariant-loop-port l = (port : ℕ) → port < l.port → far_of l.one l.node port ≡ far_of l.two l.node port
