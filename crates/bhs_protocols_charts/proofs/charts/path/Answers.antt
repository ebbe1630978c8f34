use Rattle.std.proofs.Common.{sym, ◌∙◌, arith}
use Rattle.bhs_protocols_charts.proofs.ProgramLemmas.{path_here}
use Rattle.bhs_protocols_charts.proofs.charts.path.Goals as goal

pub loop-fuel-preserved : goal.loop-fuel-preserved
loop-fuel-preserved c =
    let here = path_here c.args.chart.now c.loop-fuel.fuel c.loop-fuel.at c.loop-fuel.ports.items (omega arith)
    c.if-at-ne0.true in
    rw (c.in_ok-push_front.ensures.items, c.name_at-father.ensures) (sym here ∙ c.loop-fuel.invariant)
