use Rattle.bhs_match.proofs.LawLemmas.{pools_are_of_agents_lemma}
use Rattle.bhs_match.proofs.laws.pools_are_of_agents.Goals as goal

pub returns : goal.returns
returns c = pools_are_of_agents_lemma
