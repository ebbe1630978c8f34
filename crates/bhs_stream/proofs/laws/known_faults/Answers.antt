use Rattle.bhs_stream.proofs.OverMemory.{StoppedBy-from_ends}
use Rattle.bhs_stream.proofs.laws.known_faults.Goals as goal

pub returns : goal.returns
returns g c = StoppedBy-from_ends g.R.Read.remaining
