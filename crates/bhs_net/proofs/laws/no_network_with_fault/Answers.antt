use Rattle.bhs_net.proofs.Made.{no_fault}
use Rattle.bhs_net.proofs.laws.no_network_with_fault.Goals as goal

pub returns : goal.returns
returns c = λ nodes links fault holds net makes. no_fault nodes links net makes fault holds
