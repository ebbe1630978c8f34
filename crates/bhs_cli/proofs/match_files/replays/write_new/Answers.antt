use Rattle.bhs_replay.specs.Replay.{replay_of}
use Rattle.bhs_cli.proofs.ReportLemmas.{filed}
use Rattle.bhs_cli.proofs.match_files.replays.write_new.Goals as goal

pub returns : goal.returns
returns g c = filed _ _ _ (replay_of c.args.sealed.now) c.write_match.result c.write_match.ensures.ok
