use Rattle.bhs_protocols.proofs.FindsLemmas.{solvers_find}
use Rattle.bhs_protocols.proofs.laws.solvers_find.Goals as goal

pub returns : goal.returns
returns c = solvers_find
