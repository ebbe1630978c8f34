use Rattle.std.proofs.Common.{[], ap, ◌∙◌}
use Rattle.bhs_net.specs.Network.{Network}
use Rattle.bhs_model.specs.Setups.{normal}
use Rattle.bhs_match.specs.Matches.{Play}
use Rattle.bhs_view.proofs.playback.begun.Goals as goal

pub returns-in-Ok : goal.returns-in-Ok
returns-in-Ok c =
    let fresh : Network → Play = λ net. record { net = net; setup = normal net c.args.setup; log = [] } in
    c.in-Ok.ensures.given ∙ ap fresh c.in_ok-try_clone.ensures
