use Rattle.bhs_protocols.proofs.ConfigurationLemmas.{configurations_follow}
use Rattle.bhs_protocols.proofs.laws.configurations_follow.Goals as goal

pub returns : goal.returns
returns c = configurations_follow
