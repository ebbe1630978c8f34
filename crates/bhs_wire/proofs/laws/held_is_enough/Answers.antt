use Rattle.bhs_wire.proofs.StreamLaws.{lines-append, held_of-append}
use Rattle.bhs_wire.proofs.laws.held_is_enough.Goals as goal

pub returns : goal.returns
returns c = record { lines = lines-append; held = held_of-append }
