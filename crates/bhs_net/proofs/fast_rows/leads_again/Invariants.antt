use Rattle.std.proofs.Common.{◌≢◌, ℕ, ◌<◌, slice_index_or}
use Rattle.bhs_net.proofs.fast_rows.leads_again.Given as goal

abbrev pub invariant-loop-other : goal.invariant-loop-other
invariant-loop-other l = (one : ℕ) → one < l.other → (slice_index_or l.row one (0, 0)).0 ≢ l.node
