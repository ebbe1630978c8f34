use Rattle.std.proofs.Common.{refl, string_bytes}
use Rattle.std.proofs.lemmas.Result.{IfOk-weaker}
use Rattle.bhs_cli_results.specs.Appeals.{Case, IsVerdictOn, hears_nothing, rejects, upholds}
use Rattle.bhs_cli.proofs.ReportLemmas.{reported}
use Rattle.bhs_cli_results.proofs.appeal.print_appealed_verdict.Goals as goal

pub returns-in-Err : goal.returns-in-Err
returns-in-Err g c = let (fault, is) = c.in-Err.ensures.fault in hears_nothing fault is refl

pub returns-in-Err-turns_of : goal.returns-in-Err-turns_of
returns-in-Err-turns_of g c = let (fault, is) = c.in-Err-turns_of.ensures in hears_nothing fault is refl

pub returns-in-Err-lineup_of : goal.returns-in-Err-lineup_of
returns-in-Err-lineup_of g c = let (fault, is) = c.in-Err-lineup_of.ensures.fault in hears_nothing fault is refl

pub returns-in-Ok-compared : goal.returns-in-Ok-compared
returns-in-Ok-compared g c =
    let one : Case = record {
      lineup = c.in-Ok-lineup_of.lineup;
      game = c.args.appeal.now.game;
      play = c.in-Ok.sealed;
      turns = c.deref.result.now;
    } in
    upholds one
    (record { number = refl; assembled = c.in-Ok-lineup_of.ensures.made; replayed = c.in-Ok.ensures.read })
    c.in-Ok-compared.ensures.on_time
    (reported g.W.Output.takes g.W.Output.flushes (IsVerdictOn c.in-Ok.sealed) string_bytes _ _ _ c.verdict_line.result
    (IfOk-weaker c.verdict_line.result _ _ (λ text is. rw c.judge.ensures at is) c.verdict_line.ensures)
    c.show_made.ensures.shown c.show_made.ensures.lacks)

pub returns : goal.returns
returns g c =
    let one : Case = record {
      lineup = c.in-Ok-lineup_of.lineup;
      game = c.args.appeal.now.game;
      play = c.in-Ok.sealed;
      turns = c.deref.result.now;
    } in
    rejects one
    (record { number = refl; assembled = c.in-Ok-lineup_of.ensures.made; replayed = c.in-Ok.ensures.read })
    c.in-Err-compared.fault c.in-Err-compared.ensures.wrong c.report.ensures refl
