use Rattle.bhs_protocols_charts.proofs.ChartLemmas.{charters_solve}
use Rattle.bhs_protocols_charts.proofs.laws.charters_solve.Goals as goal

pub returns : goal.returns
returns c = charters_solve
