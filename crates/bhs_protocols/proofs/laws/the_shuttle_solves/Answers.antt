use Rattle.bhs_protocols.proofs.ShuttleLemmas.{shuttle_solves}
use Rattle.bhs_protocols.proofs.laws.the_shuttle_solves.Goals as goal

pub returns : goal.returns
returns c = shuttle_solves
