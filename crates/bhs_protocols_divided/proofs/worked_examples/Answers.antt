use Rattle.std.proofs.Common.{refl}
use Rattle.bhs_protocols_divided.proofs.DiamondPlan.{the_diamond_has_a_plan, the_diamond_is_solved_always}
use Rattle.bhs_protocols_divided.proofs.worked_examples.Goals as goal

pub returns : goal.returns
returns c = record {
  ahead = refl;
  divides = refl;
  told = refl;
  plan = the_diamond_has_a_plan;
  always = the_diamond_is_solved_always;
  rows = (refl, refl, refl, refl, refl, refl, refl, refl, refl, refl);
}
