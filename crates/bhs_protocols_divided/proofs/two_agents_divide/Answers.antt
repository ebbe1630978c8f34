use Rattle.bhs_protocols_divided.proofs.NetworksPlanned.{two_agents_divide}
use Rattle.bhs_protocols_divided.proofs.two_agents_divide.Goals as goal

pub returns : goal.returns
returns c = two_agents_divide
