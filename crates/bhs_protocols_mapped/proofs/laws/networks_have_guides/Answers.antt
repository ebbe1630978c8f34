use Rattle.bhs_protocols_mapped.proofs.GuideLemmas.{networks_have_guides}
use Rattle.bhs_protocols_mapped.proofs.OnlyNetworks.{only_networks_have_guides}
use Rattle.bhs_protocols_mapped.proofs.laws.networks_have_guides.Goals as goal

pub returns : goal.returns
returns c = record { all = networks_have_guides; only = only_networks_have_guides }
