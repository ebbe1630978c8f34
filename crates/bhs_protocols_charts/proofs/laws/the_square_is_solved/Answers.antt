use Rattle.std.proofs.Common.{refl}
use Rattle.bhs_protocols_charts.proofs.laws.the_square_is_solved.Goals as goal

pub returns : goal.returns
returns c = refl
