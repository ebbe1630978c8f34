use Rattle.bhs_protocols.proofs.FindsLemmas.{accusations_come_last}
use Rattle.bhs_protocols.proofs.laws.accusations_come_last.Goals as goal

pub returns : goal.returns
returns c = accusations_come_last
