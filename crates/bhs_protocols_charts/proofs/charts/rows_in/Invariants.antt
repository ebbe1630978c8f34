use Rattle.std.proofs.Common.{◌≡◌, ◌++◌, length}
use Rattle.bhs_protocols_charts.specs.Charts as specs
use Rattle.bhs_protocols_charts.proofs.charts.rows_in.Given as goal

abbrev pub invariant-loop-rest : goal.invariant-loop-rest
invariant-loop-rest l =
    l.rows.items ++ specs.rows_in (length l.rest) l.rest ≡ specs.rows_in (length l.text) l.text

abbrev pub decreases-loop-rest : goal.decreases-loop-rest
decreases-loop-rest l = length l.rest
