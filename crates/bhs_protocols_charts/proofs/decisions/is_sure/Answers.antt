use Rattle.std.proofs.Common.{arith}
use Rattle.bhs_protocols_charts.proofs.ProgramLemmas.{few_open}
use Rattle.bhs_protocols_charts.proofs.decisions.is_sure.Goals as goal

pub open_ends_of-requires : goal.open_ends_of-requires
open_ends_of-requires c = omega (arith, few_open c.args.chart.now)
