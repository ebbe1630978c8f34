use Rattle.std.proofs.Common.{◌≡◌, ◌≤◌, false, subst}
use Rattle.bhs_model.specs.declared.setups.Setup.{Setup}
use Rattle.bhs_model.specs.Kept.{lost}
use Rattle.bhs_model.specs.Marks.{events_of}
use Rattle.bhs_match.specs.Matches.{Play, world_in}
use Rattle.bhs_match.proofs.ApplyLemmas.{strange_spared}
use Rattle.bhs_match.proofs.games.Match.is_lost.Goals as goal

pub returns-then-agent-setup : goal.returns-then-agent-setup
returns-then-agent-setup c =
    subst (λ (play : Play). false ≡ lost (world_in play) (events_of play.log) c.args.agent) c.self.view_is
    (strange_spared c.self.inside.world c.self.inside.log.items c.args.agent
    (subst (λ (setup : Setup). setup.agents ≤ c.args.agent) c.setup.ensures.setup c.if-agent-setup.true))
