use Rattle.bhs_stream.proofs.OverMemory.{AppendsPart-from_part}
use Rattle.bhs_stream.proofs.laws.known_parts.Goals as goal

pub returns : goal.returns
returns g c = λ old new bytes. AppendsPart-from_part g.W.Write.contents bytes old new
