use Rattle.std.proofs.Common.{◌≡◌, ◌++◌, drop, string_bytes}
use Rattle.bhs_protocols_charts.specs.Charts as specs
use Rattle.bhs_protocols_charts.proofs.charts.text_of.Given as goal

abbrev pub invariant-loop-row : goal.invariant-loop-row
invariant-loop-row l =
    string_bytes l.text ++ specs.text_of (drop l.row-index l.chart) ≡ specs.text_of l.chart
