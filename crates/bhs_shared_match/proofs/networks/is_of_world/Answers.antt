use Rattle.bhs_shared_match.proofs.WorldLemmas.{world_tells}
use Rattle.bhs_shared_match.proofs.networks.is_of_world.Goals as goal

pub returns-then-is_same_network : goal.returns-then-is_same_network
returns-then-is_same_network c =
    world_tells _ _ _ _ _ _ _ c.net.ensures c.setup.ensures.setup c.if-is_same_network.true
    c.is_same_network.ensures c.eq.ensures
