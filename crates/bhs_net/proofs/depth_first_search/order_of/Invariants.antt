use Rattle.std.proofs.Common.{◌≡◌, length}
use Rattle.bhs_net.proofs.depth_first_search.order_of.Given as goal

abbrev pub invariant-loop-place : goal.invariant-loop-place
invariant-loop-place l = (length l.before ≡ 4096) × (length l.behind ≡ 4096) × (length l.goes_behind ≡ 4096)
