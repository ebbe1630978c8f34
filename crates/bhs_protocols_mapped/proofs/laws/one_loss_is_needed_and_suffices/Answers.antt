use Rattle.bhs_protocols_mapped.proofs.MapLemmas.{one_loss_is_needed_and_suffices}
use Rattle.bhs_protocols_mapped.proofs.laws.one_loss_is_needed_and_suffices.Goals as goal

pub returns : goal.returns
returns c = one_loss_is_needed_and_suffices
