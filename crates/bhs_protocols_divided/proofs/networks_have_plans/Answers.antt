use Rattle.bhs_protocols_divided.proofs.NetworksPlanned.{networks_have_plans}
use Rattle.bhs_protocols_divided.proofs.networks_have_plans.Goals as goal

pub returns : goal.returns
returns c = networks_have_plans
