use Rattle.std.proofs.Common.{length, arith}
use Rattle.bhs_protocols_charts.proofs.ProgramLemmas.{few_ends}
use Rattle.bhs_protocols_charts.proofs.charts.chart_of.Goals as goal

pub returns-then-not-is_empty-clause-few : goal.returns-then-not-is_empty-clause-few
returns-then-not-is_empty-clause-few c =
    rw c.in_ok-rows.ensures (omega (arith, few_ends (length c.args.text.now) c.args.text.now))
