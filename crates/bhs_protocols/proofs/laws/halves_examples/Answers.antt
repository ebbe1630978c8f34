use Rattle.std.proofs.Common.{refl}
use Rattle.bhs_protocols.proofs.laws.halves_examples.Goals as goal

pub returns : goal.returns
returns c = record { three = (refl, refl); four = (refl, refl); five = (refl, refl); six = (refl, refl) }
