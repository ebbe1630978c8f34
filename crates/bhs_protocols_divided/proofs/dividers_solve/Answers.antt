use Rattle.bhs_protocols_divided.proofs.DividingTheorem.{dividers_solve}
use Rattle.bhs_protocols_divided.proofs.dividers_solve.Goals as goal

pub returns : goal.returns
returns c = dividers_solve
