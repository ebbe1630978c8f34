use Rattle.std.proofs.Common.{◌≡◌, drop}
use Rattle.bhs_view.specs.Places.{misplaced, misplaced_from}
use Rattle.bhs_view.proofs.restriction.misplaced.Given as goal

abbrev pub invariant-loop-index : goal.invariant-loop-index
invariant-loop-index l = misplaced l.count l.places ≡ misplaced_from l.index l.least l.count (drop l.index l.places)
