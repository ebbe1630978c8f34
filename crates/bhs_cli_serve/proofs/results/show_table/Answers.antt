use Rattle.std.proofs.Common.{string_bytes, refl, map}
use Rattle.bhs_shared_match.specs.declared.settlement.Settlement.{Settlement}
use Rattle.bhs_contest.specs.Hosting.{IsStandings}
use Rattle.bhs_cli.proofs.ReportLemmas.{reported}
use Rattle.bhs_cli_serve.specs.Contests.{tabled, untabled}
use Rattle.bhs_cli_serve.proofs.results.show_table.Goals as goal

pub returns-in-Ok : goal.returns-in-Ok
returns-in-Ok g c = tabled c.in-Ok.settlements.items c.in-Ok.ensures.all
    (reported g.W.Output.takes g.W.Output.flushes
    (IsStandings c.args.finished.teams.items (map (λ (one : Settlement). one.sealed) c.in-Ok.settlements.items))
    string_bytes _ _ _ c.table.result (rw c.deref.ensures.value at c.table.ensures)
    c.show_made.ensures.shown c.show_made.ensures.lacks)

pub returns : goal.returns
returns g c = untabled c.in-Err.fault c.in-Err.ensures.fault c.report.ensures refl
