use Rattle.std.proofs.Common.{◌≡◌, ◌++◌, drop}
use Rattle.bhs_view.specs.TwinWalks.{left_at}
use Rattle.bhs_view.proofs.twins.left.Given as goal

abbrev pub invariant-loop-place : goal.invariant-loop-place
invariant-loop-place l = left_at l.node l.log l.sites ≡ l.set.items ++ left_at l.node (drop l.place l.log)
    (drop l.place l.sites)
