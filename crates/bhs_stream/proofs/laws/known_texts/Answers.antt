use Rattle.bhs_stream.proofs.OverMemory.{Consumes-from_closes}
use Rattle.bhs_stream.proofs.laws.known_texts.Goals as goal

pub returns : goal.returns
returns g c = Consumes-from_closes g.R.Read.remaining
