use Rattle.bhs_world.proofs.JudgeLemmas.{new_sound, normal_signs}
use Rattle.bhs_world.proofs.worlds.World.new.Goals as goal

pub invariant_of-result : goal.invariant_of-result
invariant_of-result c =
    let labelled = c.nodes.ensures.network.labelled in
    let within = c.in_ok-destroyers.ensures.fit.1 in (
      new_sound _ _ _ _ _ _ labelled within c.in_ok-setup.ensures c.nodes.ensures.count c.in_ok-agents.ensures
          c.in_ok-boards.ensures,
      rw c.in_ok-setup.ensures (normal_signs _ _ _ labelled within c.in_ok-destroyers.ensures.signs),
    )
