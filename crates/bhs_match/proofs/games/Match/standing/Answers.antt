use Rattle.std.proofs.Common.{◌≡◌, ◌≤◌, subst}
use Rattle.bhs_model.specs.declared.setups.Setup.{Setup}
use Rattle.bhs_model.specs.Runs.{Before}
use Rattle.bhs_match.specs.Matches.{Play, state_of}
use Rattle.bhs_match.proofs.ApplyLemmas.{strange_outside}
use Rattle.bhs_match.proofs.games.Match.standing.Goals as goal

pub returns-then-agent-setup : goal.returns-then-agent-setup
returns-then-agent-setup c =
    subst (λ (play : Play). Before ≡ (state_of play).position c.args.agent) c.self.view_is
    (strange_outside c.self.inside.world c.self.inside.log.items c.args.agent
    (subst (λ (setup : Setup). setup.agents ≤ c.args.agent) c.setup.ensures.setup c.if-agent-setup.true))
