use Rattle.bhs_replay.proofs.EveryReplay.{every_replay}
use Rattle.bhs_replay.proofs.laws.every_replay_is_read.Goals as goal

pub returns : goal.returns
returns c = every_replay
