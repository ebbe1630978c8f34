use Rattle.bhs_wire.proofs.StreamLaws.{found_in-append, left_by-append}
use Rattle.bhs_wire.proofs.laws.any_pieces.Goals as goal

pub returns : goal.returns
returns c = record { found = found_in-append; left = left_by-append }
