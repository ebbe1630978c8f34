use Rattle.bhs_protocols.proofs.HalvesRings.{halves_solve_all_rings}
use Rattle.bhs_protocols.proofs.laws.the_halves_solve_all_rings.Goals as goal

pub returns : goal.returns
returns c = halves_solve_all_rings
