use Rattle.std.proofs.Common.{ℕ, ◌<◌}
use Rattle.bhs_net.specs.Faults.{IsLoop}
use Rattle.bhs_net.proofs.link_rows.check_loops.Given as goal

abbrev pub invariant-loop-place : goal.invariant-loop-place
invariant-loop-place l = (early : ℕ) → early < l.place → ¬ IsLoop l.links early
