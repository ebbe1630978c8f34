use Rattle.std.proofs.Common.{refl, string_bytes}
use Rattle.std.proofs.lemmas.Result.{IfOk-weaker}
use Rattle.bhs_cli_results.specs.Reports.{IsJudgement}
use Rattle.bhs_cli.specs.Showing.{stops}
use Rattle.bhs_cli.proofs.ReportLemmas.{reported}
use Rattle.bhs_cli_results.proofs.judge.print_verdict.Goals as goal

pub returns-in-Ok : goal.returns-in-Ok
returns-in-Ok g c =
    reported g.W.Output.takes g.W.Output.flushes IsJudgement string_bytes _ _ _ c.verdict_line.result
    (IfOk-weaker c.verdict_line.result _ _ (λ text is. record
    { play = c.in-Ok.sealed; replayed = c.in-Ok.ensures.read; said = rw c.judge.ensures at is })
    c.verdict_line.ensures)
    c.show_made.ensures.shown c.show_made.ensures.lacks

pub returns-in-Err : goal.returns-in-Err
returns-in-Err g c = let (fault, is) = c.in-Err.ensures.fault in stops fault is refl
