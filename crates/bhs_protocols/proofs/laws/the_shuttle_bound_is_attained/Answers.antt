use Rattle.bhs_protocols.proofs.AttainedOnRings.{shuttle_attains_on_all_rings}
use Rattle.bhs_protocols.proofs.ShuttleWorst.{shuttle_attains, shuttle_attains_squares}
use Rattle.bhs_protocols.proofs.laws.the_shuttle_bound_is_attained.Goals as goal

pub returns : goal.returns
returns c = record {
  attained = shuttle_attains;
  squares = shuttle_attains_squares;
  all_rings = shuttle_attains_on_all_rings;
}
