use Rattle.std.proofs.Common.{◌∙◌, sym}
use Rattle.bhs_cli_results.specs.Reports.{no_rows}
use Rattle.bhs_cli_results.proofs.ResultLemmas.{row_more}
use Rattle.bhs_cli_results.proofs.table.rows_of.Goals as goal

pub loop-entry-init : goal.loop-entry-init
loop-entry-init g c = rw c.new-rows.ensures.items no_rows

pub loop-entry-preserved : goal.loop-entry-preserved
loop-entry-preserved g c =
    row_more c.args.entries.now c.loop-entry.entry-index c.entry-item.result c.loop-entry.rows.items
    c.push.new.self.items c.in_ok-row.row c.push.result
    (sym c.is_err.ensures.value ∙ c.if-is_err.false) c.push.ensures.items c.loop-entry-test.true c.entry-item.is
    c.loop-entry.invariant c.in_ok-row.ensures.row
