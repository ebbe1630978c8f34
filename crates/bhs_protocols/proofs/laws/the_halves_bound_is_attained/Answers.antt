use Rattle.std.proofs.Common.{refl}
use Rattle.bhs_protocols.proofs.AttainedOnRings.{halves_attain_on_all_rings}
use Rattle.bhs_protocols.proofs.HalvesWorst.{worst_is_within, halves_attain, halves_attain_on_standard_rings}
use Rattle.bhs_protocols.proofs.laws.the_halves_bound_is_attained.Goals as goal

pub returns : goal.returns
returns c = record {
  within = worst_is_within;
  attained = halves_attain;
  standard = halves_attain_on_standard_rings;
  all_rings = halves_attain_on_all_rings;
  distances = refl;
}
