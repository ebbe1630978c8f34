use Rattle.bhs_protocols.proofs.RingLemmas.{rings_are_rings, shuttle_solves_all_rings}
use Rattle.bhs_protocols.proofs.laws.the_shuttle_solves_all_rings.Goals as goal

pub returns : goal.returns
returns c = record { are_rings = rings_are_rings; solves = shuttle_solves_all_rings }
