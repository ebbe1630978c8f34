use Rattle.std.proofs.Common.{ℕ, ◌<◌}
use Rattle.bhs_net.specs.Faults.{IsStray}
use Rattle.bhs_net.proofs.link_rows.check_ends.Given as goal

abbrev pub invariant-loop-place : goal.invariant-loop-place
invariant-loop-place l = (early : ℕ) → early < l.place → ¬ IsStray l.nodes l.links early
