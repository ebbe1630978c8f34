use Rattle.bhs_stream.proofs.OverMemory.{Appends-from_all}
use Rattle.bhs_stream.proofs.laws.known_sends.Goals as goal

pub returns : goal.returns
returns g c = λ old new bytes. Appends-from_all g.W.Write.contents bytes old new
