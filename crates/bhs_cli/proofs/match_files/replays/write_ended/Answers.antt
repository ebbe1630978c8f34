use Rattle.bhs_match.specs.Matches.{Play, state_of}
use Rattle.bhs_stream.specs.Streams.{known_takes}
use Rattle.bhs_replay.specs.Replay.{replay_of}
use Rattle.bhs_cli.specs.Showing.{Took}
use Rattle.std.proofs.Common.{subst}
use Rattle.bhs_cli.proofs.FilingLemmas.{sealed_is}
use Rattle.bhs_cli.proofs.match_files.replays.write_ended.Goals as goal

pub returns-in-Ok-clause-filed : goal.returns-in-Ok-clause-filed
returns-in-Ok-clause-filed g c = λ done closed.
    subst (λ (play : Play). Took (known_takes g.F.File.Write.contents) (replay_of play))
    (sealed_is (state_of c.args.ready.game).closed c.args.ready.game c.in-Ok.sealed c.in-Ok.ensures)
    (c.write_numbered.ensures.filed done)
