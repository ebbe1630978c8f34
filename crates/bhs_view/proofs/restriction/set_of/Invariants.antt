use Rattle.bhs_view.proofs.SetLemmas.{IsSetOf}
use Rattle.bhs_view.proofs.restriction.set_of.Given as goal
use Rattle.std.proofs.Common.{take}

abbrev pub invariant-loop-place : goal.invariant-loop-place
invariant-loop-place l = IsSetOf l.set.items (take l.place-index l.places) l.count
