use Rattle.bhs_protocols.proofs.AloneLemmas.{one_alone_fails}
use Rattle.bhs_protocols.proofs.AloneOnNetworks.{one_alone_fails_on_networks}
use Rattle.bhs_protocols.proofs.laws.one_alone_fails.Goals as goal

pub returns : goal.returns
returns c = record { fails = one_alone_fails; on_networks = one_alone_fails_on_networks }
