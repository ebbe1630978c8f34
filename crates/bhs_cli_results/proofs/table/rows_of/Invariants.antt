use Rattle.std.proofs.Common.{take}
use Rattle.bhs_cli_results.specs.Reports.{AreRows}
use Rattle.bhs_cli_results.proofs.table.rows_of.Given as goal

abbrev pub invariant-loop-entry : goal.invariant-loop-entry
invariant-loop-entry g l = AreRows (take l.entry-index l.entries) l.rows.items
