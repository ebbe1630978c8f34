use Rattle.std.proofs.Common.{refl}
use Rattle.bhs_replay.specs.Replay.{replay_of}
use Rattle.bhs_cli.specs.Showing.{prints}
use Rattle.bhs_cli.proofs.match_files.parts.print_replay.Goals as goal

pub returns : goal.returns
returns g c =
    let play = c.args.sealed.now in
    prints (replay_of play) (record { play = play; part = c.requires; said = refl })
    (c.passed_on.ensures c.args.writer.now (replay_of play) c.write_match.ensures.ok c.write_match.ensures.err)
