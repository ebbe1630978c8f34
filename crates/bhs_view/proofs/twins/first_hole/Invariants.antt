use Rattle.std.proofs.Common.{◌≡◌, drop}
use Rattle.bhs_model.specs.Setups.{world_of}
use Rattle.bhs_view.specs.TwinWalks.{first_hole}
use Rattle.bhs_view.proofs.twins.first_hole.Given as goal

abbrev pub invariant-loop-place : goal.invariant-loop-place
invariant-loop-place l = first_hole (world_of l.net l.setup) l.log l.sites ≡ first_hole (world_of l.net l.setup)
    (drop l.place l.log) (drop l.place l.sites)
