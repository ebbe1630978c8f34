use Rattle.std.proofs.Common.{◌≡◌, [], take, drop}
use Rattle.bhs_model.specs.Destroyers.{AreSignsOf}
use Rattle.bhs_world.specs.Faults.{are_links_fit}
use Rattle.bhs_world.proofs.setup_checks.mark_links.Given as goal

abbrev pub invariant-loop-end : goal.invariant-loop-end
invariant-loop-end l = AreSignsOf l.net l.setup.holes (take l.end-index l.setup.dark) l.destroyers
    × (are_links_fit l.net [] l.setup.dark ≡ are_links_fit l.net (take l.end-index l.setup.dark)
    (drop l.end-index l.setup.dark))
