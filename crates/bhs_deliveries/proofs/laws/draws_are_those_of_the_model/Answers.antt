use Rattle.bhs_deliveries.proofs.DrawLemmas.{draws_are_those}
use Rattle.bhs_deliveries.proofs.laws.draws_are_those_of_the_model.Goals as goal

pub returns : goal.returns
returns c = draws_are_those
