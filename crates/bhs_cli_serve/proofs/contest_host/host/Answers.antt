use Rattle.std.proofs.Common.{refl, subst, List, ℕ}
use Rattle.bhs_stream.specs.Streams.{known_takes}
use Rattle.bhs_time.specs.declared.kinds.ScheduleKind.{ScheduleKind}
use Rattle.bhs_contest.specs.Hosting.{dealers_of}
use Rattle.bhs_cli_serve.specs.Contests.{Ends, fares, fails}
use Rattle.bhs_cli_serve.proofs.ContestLemmas.{as_many}
use Rattle.bhs_cli_serve.proofs.contest_host.host.Goals as goal

pub finish-requires-after_bounds : goal.finish-requires-after_bounds
finish-requires-after_bounds g c κs within =
    rw c.in-Ok.ensures.teams
    (as_many c.args.lineup.schedule 0 c.args.lineup.ready.items
    (dealers_of c.args.lineup.seed 0 c.args.lineup.ready.items) c.in-Ok.finished.settled.items
    c.in-Ok.ensures.settled)

pub returns-in-Ok : goal.returns-in-Ok
returns-in-Ok g c =
    let settled = c.in-Ok.finished.settled.items in
    let Ending : ScheduleKind → List (List ℕ) → Type 0 =
    λ schedule teams. Ends (known_takes g.R.File.Write.contents) g.W.Output.takes g.W.Output.flushes schedule teams
    settled c.args.writer.now c.finish.new.writer c.finish.result in
    fares settled c.in-Ok.ensures.settled
    (subst (λ (teams : List (List ℕ)). Ending c.args.lineup.schedule teams) c.in-Ok.ensures.teams
    (subst (λ (schedule : ScheduleKind). Ending schedule c.in-Ok.finished.teams.items) c.in-Ok.ensures.schedule
    c.finish.ensures))

pub returns-in-Err : goal.returns-in-Err
returns-in-Err g c = fails c.in-Err.fault c.in-Err.ensures.unbegun c.report.ensures refl
