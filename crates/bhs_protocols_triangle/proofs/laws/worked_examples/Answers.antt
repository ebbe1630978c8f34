use Rattle.std.proofs.Common.{refl}
use Rattle.bhs_protocols_triangle.proofs.laws.worked_examples.Goals as goal

pub returns : goal.returns
returns c = refl
