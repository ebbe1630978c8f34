use Rattle.std.proofs.Common.{arith}
use Rattle.std.proofs.lemmas.Grind.{common_steps}
use Rattle.bhs_protocols_charts.proofs.ProgramLemmas.{rows_end}
use Rattle.bhs_protocols_charts.proofs.charts.rows_in.Goals as goal

pub returns : goal.returns
returns c =
    let none = rows_end c.loop-rest.rest.now (omega arith) in
    grind (arith, common_steps, none, c.loop-rest.invariant)
