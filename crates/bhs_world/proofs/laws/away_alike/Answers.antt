use Rattle.bhs_world.proofs.AwayLemmas.{away_alike}
use Rattle.bhs_world.proofs.laws.away_alike.Goals as goal

pub returns : goal.returns
returns c = away_alike
