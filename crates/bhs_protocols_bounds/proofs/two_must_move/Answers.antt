use Rattle.bhs_protocols_bounds.proofs.BoundLemmas.{two_must_move, two_must_move_at_rest, two_must_move_more}
use Rattle.bhs_protocols_bounds.proofs.BoundLemmas.{two_must_move_on_all_rings}
use Rattle.bhs_protocols_bounds.proofs.two_must_move.Goals as goal

pub returns : goal.returns
returns c = record {
  finds = two_must_move;
  on_all_rings = two_must_move_on_all_rings;
  at_rest = two_must_move_at_rest;
  more = two_must_move_more;
}
