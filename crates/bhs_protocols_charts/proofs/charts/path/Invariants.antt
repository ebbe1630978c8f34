use Rattle.std.proofs.Common.{◌≡◌, ◌++◌}
use Rattle.bhs_protocols_charts.specs.Charts as specs
use Rattle.bhs_protocols_charts.proofs.charts.path.Given as goal

abbrev pub invariant-loop-fuel : goal.invariant-loop-fuel
invariant-loop-fuel l = specs.path_to l.chart l.fuel l.at ++ l.ports.items ≡ specs.path l.chart l.row

abbrev pub decreases-loop-fuel : goal.decreases-loop-fuel
decreases-loop-fuel l = l.fuel
