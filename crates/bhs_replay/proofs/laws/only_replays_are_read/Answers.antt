use Rattle.bhs_replay.proofs.SoundTexts.{sound}
use Rattle.bhs_replay.proofs.laws.only_replays_are_read.Goals as goal

pub returns : goal.returns
returns c = sound
