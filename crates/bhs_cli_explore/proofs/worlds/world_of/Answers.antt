use Rattle.std.proofs.Common.{◌∙◌, ap, ap₂}
use Rattle.bhs_model.specs.declared.setups.Setup.{Setup}
use Rattle.bhs_model.specs.Setups.{normal}
use Rattle.bhs_cli_explore.specs.Holes.{setup_with}
use Rattle.bhs_cli_explore.proofs.HoleLemmas.{normal_with}
use Rattle.bhs_cli_explore.proofs.worlds.world_of.Goals as goal

pub returns-in-Ok : goal.returns-in-Ok
returns-in-Ok c =
    let play = c.args.ready.now.game in
    let same_net = c.in_ok-net.ensures ∙ c.net.ensures in
    let same_setup = c.in_ok-setup.ensures ∙ ap (λ (it : Setup). setup_with it c.args.hole) c.setup.ensures.setup in (
      c.in-Ok.ensures.given.0 ∙ same_net,
      c.in-Ok.ensures.given.1 ∙ (ap₂ normal same_net same_setup
          ∙ normal_with play.net play.setup c.args.hole c.setup.ensures.normal c.requires),
    )
