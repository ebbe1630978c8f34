use Rattle.std.proofs.Common.{sym, subst, ℕ, List, []}
use Rattle.bhs_cli_explore.specs.HoleResults.{IsReportOf}
use Rattle.bhs_cli_explore.specs.Holes.{tells_fault}
use Rattle.bhs_cli_explore.proofs.TellLemmas.{told_one}
use Rattle.bhs_cli_explore.proofs.holes.HoleSearches.print_result.Goals as goal

pub returns-in-Ok : goal.returns-in-Ok
returns-in-Ok g c =
    let search = c.args.self.now.search in
    let hole = c.args.found.now.hole in
    told_one g.W.Output.takes g.W.Output.flushes (IsReportOf search) hole c.as_str.result.now c.in-Ok.status
    c.args.writer.now c.print_report.new.writer c.print_report.result
    (subst (λ (text : List ℕ). IsReportOf search hole text c.in-Ok.status) (sym c.as_str.ensures.value)
    (rw c.in-Ok.is at c.requires)) c.print_report.ensures

pub returns-in-Err : goal.returns-in-Err
returns-in-Err g c = tells_fault c.args.found.now.hole [] c.in-Err.fault c.report_hole.ensures
