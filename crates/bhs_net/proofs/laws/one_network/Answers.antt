use Rattle.bhs_net.proofs.Made.{same_network}
use Rattle.bhs_net.proofs.laws.one_network.Goals as goal

pub returns : goal.returns
returns c = same_network
