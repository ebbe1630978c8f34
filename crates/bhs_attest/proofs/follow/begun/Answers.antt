use Rattle.std.proofs.Common.{[], ◌≡◌, None, ap, ap₂, ◌∙◌, rules, subst}
use Rattle.bhs_net.specs.Network.{Network, IsPortLabelled}
use Rattle.bhs_model.specs.declared.setups.Setup.{Setup}
use Rattle.bhs_model.specs.Setups.{normal}
use Rattle.bhs_world.specs.Faults.{first_fault}
use Rattle.bhs_world.proofs.NoFaultLemmas.{normal_fits}
use Rattle.bhs_match.specs.Matches.{Play}
use Rattle.bhs_attest.proofs.follow.begun.Goals as goal

pub unreachable-requires : goal.unreachable-requires
unreachable-requires c =
    let fits : first_fault c.in_ok-try_clone.field-0 c.in_ok-try_clone-2.field-0 ≡ None =
    ap₂ first_fault (c.in_ok-try_clone.ensures ∙ c.net-net.ensures)
    (c.in_ok-try_clone-2.ensures ∙ c.setup.ensures.setup)
    ∙ normal_fits c.args.sealed.now.net c.args.sealed.now.setup
    (subst IsPortLabelled c.net-net.ensures c.nodes-nodes.ensures.network.labelled)
    c.setup.ensures.within c.setup.ensures.normal in
    search (rules, fits)

pub returns-in-Ok : goal.returns-in-Ok
returns-in-Ok c =
    let fresh : Network → Setup → Play = λ net setup. record { net = net; setup = normal net setup; log = [] } in
    let same : Setup → Play = λ setup. record { net = c.args.sealed.now.net; setup = setup; log = [] } in
    c.in-Ok.ensures.given ∙ ap₂ fresh (c.in_ok-try_clone.ensures ∙ c.net-net.ensures)
    (c.in_ok-try_clone-2.ensures ∙ c.setup.ensures.setup) ∙ ap same c.setup.ensures.normal.same
