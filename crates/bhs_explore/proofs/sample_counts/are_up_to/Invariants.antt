use Rattle.std.proofs.Common.{ℕ, ◌<◌, ◌≤◌}
use Rattle.std.specs.Prelude.{slice_index_or}
use Rattle.bhs_explore.proofs.sample_counts.are_up_to.Given as goal

abbrev pub invariant-loop-pair : goal.invariant-loop-pair
invariant-loop-pair l = (place : ℕ) → place < l.pair-index → (slice_index_or l.pairs place (0, 0)).0 ≤ l.most
