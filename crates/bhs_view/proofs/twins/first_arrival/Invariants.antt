use Rattle.std.proofs.Common.{◌≡◌, drop}
use Rattle.bhs_view.specs.TwinWalks.{first_arrival_at}
use Rattle.bhs_view.proofs.twins.first_arrival.Given as goal

abbrev pub invariant-loop-place : goal.invariant-loop-place
invariant-loop-place l = first_arrival_at l.node 0 l.log l.sites ≡ first_arrival_at l.node l.place (drop l.place l.log)
    (drop l.place l.sites)
