use Rattle.std.proofs.Common.{refl, string_bytes}
use Rattle.std.proofs.lemmas.Result.{IfOk-weaker}
use Rattle.bhs_cli_results.specs.Reports.{IsTable}
use Rattle.bhs_cli.specs.Showing.{stops}
use Rattle.bhs_cli.proofs.ReportLemmas.{reported}
use Rattle.bhs_cli_results.proofs.table.print_table.Goals as goal

pub returns-in-Ok : goal.returns-in-Ok
returns-in-Ok g c =
    reported g.W.Output.takes g.W.Output.flushes (IsTable c.args.entries.now) string_bytes _ _ _ c.table.result
    (IfOk-weaker c.table.result _ _
    (λ text is. record {
      rows = c.deref.result.now;
      places = is.0;
      judged = rw c.deref.ensures.value
          c.in-Ok.ensures.rows;
      ranked = is.1;
      said = is.2;
    }) c.table.ensures)
    c.show_made.ensures.shown c.show_made.ensures.lacks

pub returns-in-Err : goal.returns-in-Err
returns-in-Err g c = let (fault, is) = c.in-Err.ensures.fault in stops fault is refl
