use Rattle.bhs_protocols.proofs.HalvesLemmas.{halves_solve}
use Rattle.bhs_protocols.proofs.HalvesRings.{turns_are_few}
use Rattle.bhs_protocols.proofs.laws.the_halves_solve.Goals as goal

pub returns : goal.returns
returns c = record { solves = halves_solve; few = turns_are_few }
