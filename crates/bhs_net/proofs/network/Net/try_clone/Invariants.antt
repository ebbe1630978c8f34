use Rattle.std.proofs.Common.{◌≡◌, take}
use Rattle.bhs_net.specs.Network.{network_of}
use Rattle.bhs_net.proofs.network.Net.try_clone.Given as goal

abbrev pub invariant-loop-row : goal.invariant-loop-row
invariant-loop-row l = network_of l.rows.items ≡ take l.row-index (network_of l.row-items)
