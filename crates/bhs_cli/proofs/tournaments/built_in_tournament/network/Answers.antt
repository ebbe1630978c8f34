use Rattle.bhs_cli.proofs.TextLemmas.{network_is}
use Rattle.bhs_cli.proofs.tournaments.built_in_tournament.network.Goals as goal

pub returns : goal.returns
returns c = network_is c.read_network.result c.read_network.ensures.made c.read_network.ensures.refused
