use Rattle.bhs_protocols_bounds.proofs.BesideHalves.{halves_on_eight}
use Rattle.bhs_protocols_bounds.proofs.worked_examples.Goals as goal

pub returns : goal.returns
returns c = halves_on_eight
