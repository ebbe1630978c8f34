use Rattle.std.proofs.Common.{◌≡◌, [], take, drop}
use Rattle.bhs_net.specs.Network.{nodes_of}
use Rattle.bhs_model.specs.Destroyers.{AreSignsOf}
use Rattle.bhs_world.specs.Faults.{are_holes_fit}
use Rattle.bhs_world.proofs.setup_checks.mark_holes.Given as goal

abbrev pub invariant-loop-hole : goal.invariant-loop-hole
invariant-loop-hole l = AreSignsOf l.net (take l.hole-index l.holes) [] l.destroyers
    × (are_holes_fit (nodes_of l.net) l.home [] l.holes ≡ are_holes_fit (nodes_of l.net) l.home
    (take l.hole-index l.holes) (drop l.hole-index l.holes))
