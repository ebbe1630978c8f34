use Rattle.bhs_protocols.proofs.StandardLemmas.{standard_rings, shuttle_solves_standard_rings, moves_are_squares}
use Rattle.bhs_protocols.proofs.laws.the_shuttle_solves_standard_rings.Goals as goal

pub returns : goal.returns
returns c = record {
  are_rings = standard_rings;
  solves = shuttle_solves_standard_rings;
  moves = moves_are_squares;
}
