use Rattle.bhs_protocols_mapped.proofs.MapLemmas.{guided_agents_attain, guided_agents_solve, guided_moves_are_few}
use Rattle.bhs_protocols_mapped.proofs.laws.guided_agents_solve.Goals as goal

pub returns : goal.returns
returns c = record { solves = guided_agents_solve; attained = guided_agents_attain; few = guided_moves_are_few }
