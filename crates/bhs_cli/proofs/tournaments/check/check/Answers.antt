use Rattle.std.proofs.Common.{refl, string_bytes}
use Rattle.std.proofs.lemmas.Result.{IfOk-weaker}
use Rattle.bhs_cli.specs.Showing.{stops}
use Rattle.bhs_cli.specs.Summary.{IsSummary}
use Rattle.bhs_cli.proofs.ReportLemmas.{reported}
use Rattle.bhs_cli.proofs.tournaments.check.check.Goals as goal

pub returns-in-Ok : goal.returns-in-Ok
returns-in-Ok g c =
    reported g.W.Output.takes g.W.Output.flushes IsSummary string_bytes _ _ _ c.summary.result
    (IfOk-weaker c.summary.result _ _ (λ text is. record
    { lineup = c.in-Ok.lineup; assembled = c.in-Ok.ensures.made; said = rw c.deref.ensures.value at is })
    c.summary.ensures)
    c.show_made.ensures.shown c.show_made.ensures.lacks

pub returns-in-Err : goal.returns-in-Err
returns-in-Err g c = let (fault, is) = c.in-Err.ensures.fault in stops fault is refl
