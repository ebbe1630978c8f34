use Rattle.std.proofs.Common.{[], refl}
use Rattle.bhs_session.proofs.SessionLaws.{InOrder-session}
use Rattle.bhs_session.proofs.laws.lines_in_order.Goals as goal

pub returns : goal.returns
returns g c from input output start turns p session = InOrder-session session ([], refl)
