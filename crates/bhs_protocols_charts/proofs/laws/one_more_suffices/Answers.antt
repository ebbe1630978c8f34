use Rattle.bhs_protocols_charts.proofs.ExactlyLemmas.{links_suffice, three_links_suffice, regular_networks_suffice}
use Rattle.bhs_protocols_charts.proofs.laws.one_more_suffices.Goals as goal

pub returns : goal.returns
returns c = record { links = links_suffice; three = three_links_suffice; regular = regular_networks_suffice }
