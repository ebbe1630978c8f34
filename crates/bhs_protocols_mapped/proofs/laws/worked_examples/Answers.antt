use Rattle.std.proofs.Common.{refl}
use Rattle.bhs_protocols_mapped.proofs.DiamondLemmas.{the_diamond_has_a_tour}
use Rattle.bhs_protocols_mapped.proofs.laws.worked_examples.Goals as goal

pub returns : goal.returns
returns c = record { guided = refl; tour = the_diamond_has_a_tour; toured = (refl, refl) }
