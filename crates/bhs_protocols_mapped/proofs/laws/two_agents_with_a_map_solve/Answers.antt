use Rattle.bhs_protocols_mapped.proofs.MapLemmas.{two_agents_with_a_map_solve, standard_rings_are_set_at}
use Rattle.bhs_protocols_mapped.proofs.laws.two_agents_with_a_map_solve.Goals as goal

pub returns : goal.returns
returns c = record { solves = two_agents_with_a_map_solve; rings = standard_rings_are_set_at }
