use Rattle.bhs_protocols.proofs.LossLemmas.{each_black_hole_destroys, a_loss_is_needed, a_loss_is_needed_on_networks}
use Rattle.bhs_protocols.proofs.LossLemmas.{the_halves_solve_everywhere}
use Rattle.bhs_protocols.proofs.laws.a_loss_is_needed.Goals as goal

pub returns : goal.returns
returns c = record {
  each = each_black_hole_destroys;
  needed = a_loss_is_needed;
  on_networks = a_loss_is_needed_on_networks;
  halves = the_halves_solve_everywhere;
}
