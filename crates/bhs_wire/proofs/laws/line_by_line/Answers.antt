use Rattle.bhs_wire.proofs.StreamLaws.{lines-flat, lines-ended}
use Rattle.bhs_wire.proofs.laws.line_by_line.Goals as goal

pub returns : goal.returns
returns c = record { first = lines-ended; last = lines-flat }
