use Rattle.bhs_replay.proofs.OneReading as lemmas
use Rattle.bhs_replay.proofs.laws.one_reading.Goals as goal

pub returns : goal.returns
returns c = lemmas.one_reading
