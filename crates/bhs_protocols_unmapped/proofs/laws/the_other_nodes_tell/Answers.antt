use Rattle.std.proofs.Common.{refl}
use Rattle.bhs_protocols_unmapped.proofs.Degrees.{links_tell, parity_tells}
use Rattle.bhs_protocols_unmapped.proofs.laws.the_other_nodes_tell.Goals as goal

pub returns : goal.returns
returns c = record { links = links_tell; parity = parity_tells; worked = (refl, refl, refl, refl) }
