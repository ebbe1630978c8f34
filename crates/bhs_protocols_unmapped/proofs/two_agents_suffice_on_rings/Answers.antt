use Rattle.bhs_protocols_unmapped.proofs.RingsAlone.{halves_solve_networks}
use Rattle.bhs_protocols_unmapped.proofs.two_agents_suffice_on_rings.Goals as goal

pub returns : goal.returns
returns c = halves_solve_networks
