use Rattle.bhs_protocols.proofs.StandardNetworks.{standard_rings_are_networks, standard_rings_are_set}
use Rattle.bhs_protocols.proofs.laws.standard_rings_are_networks.Goals as goal

pub returns : goal.returns
returns c = record { networks = standard_rings_are_networks; set = standard_rings_are_set }
