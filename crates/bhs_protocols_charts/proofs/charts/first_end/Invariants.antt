use Rattle.std.proofs.Common.{◌≡◌, drop}
use Rattle.bhs_protocols_charts.specs.Charts as specs
use Rattle.bhs_protocols_charts.specs.Programs as programs
use Rattle.bhs_protocols_charts.proofs.charts.first_end.Given as goal

abbrev pub invariant-loop-at : goal.invariant-loop-at
invariant-loop-at l = specs.first_end (programs.test_of l.kind) (drop l.at l.chart) l.at
    ≡ specs.first_end (programs.test_of l.kind) l.chart 0
