use Rattle.std.proofs.Common.{string_bytes}
use Rattle.std.proofs.lemmas.Result.{IfOk-weaker}
use Rattle.bhs_cli_results.specs.ContestTables.{IsTableOf}
use Rattle.bhs_cli.proofs.ReportLemmas.{reported}
use Rattle.bhs_cli_results.proofs.contests.print_rows.Goals as goal

pub returns : goal.returns
returns g c =
    reported g.W.Output.takes g.W.Output.flushes (IsTableOf c.args.rows.now) string_bytes _ _ _ c.table.result
    (IfOk-weaker c.table.result _ _
    (λ text is. record { places = is.0; ranked = is.1; said = is.2 }) c.table.ensures)
    c.show_made.ensures.shown c.show_made.ensures.lacks
