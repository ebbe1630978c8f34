use Rattle.bhs_replay.proofs.ShortMatch.{short_ended}
use Rattle.bhs_replay.proofs.laws.a_match_has_ended.Goals as goal

pub returns : goal.returns
returns c = short_ended
