use Rattle.bhs_protocols_divided.proofs.BesideRings.{is_order_n_log_n}
use Rattle.bhs_protocols_divided.proofs.order_n_log_n.Goals as goal

pub returns : goal.returns
returns c = is_order_n_log_n
