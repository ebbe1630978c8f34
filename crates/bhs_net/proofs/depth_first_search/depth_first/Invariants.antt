use Rattle.std.proofs.Common.{◌≡◌, length}
use Rattle.bhs_net.proofs.depth_first_search.depth_first.Given as goal

abbrev pub invariant-loop : goal.invariant-loop
invariant-loop l = length l.ports ≡ 4096
