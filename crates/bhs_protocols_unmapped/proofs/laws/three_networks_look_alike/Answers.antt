use Rattle.bhs_protocols_unmapped.proofs.Lookalikes.{three_look_alike}
use Rattle.bhs_protocols_unmapped.proofs.laws.three_networks_look_alike.Goals as goal

pub returns : goal.returns
returns c = three_look_alike
