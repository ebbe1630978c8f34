use Rattle.std.proofs.Common.{length, sym, ap, ap₂, ◌∙◌}
use Rattle.bhs_world.specs.Faults as faults
use Rattle.bhs_view.proofs.SetLemmas.{length_set}
use Rattle.bhs_world.proofs.NoFaultLemmas.{normal_fits}
use Rattle.bhs_view.proofs.RestrictLemmas.{is_restricted}
use Rattle.bhs_view.proofs.restriction.restrict.Goals as goal

pub begun-requires : goal.begun-requires
begun-requires c =
    ap₂ faults.first_fault c.net.ensures (c.in_ok-setup.ensures ∙ c.setup.ensures.setup)
    ∙ normal_fits c.args.sealed.now.net c.args.sealed.now.setup c.in_ok-set.ensures.network.labelled
    c.setup.ensures.within c.setup.ensures.normal

pub replay-requires-clause-set : goal.replay-requires-clause-set
replay-requires-clause-set c =
    ap length (c.deref.ensures.value ∙ c.in_ok-set.ensures.set) ∙ length_set 0 c.args.places.now c.args.sealed.now.log
    ∙ ap length (sym c.log.ensures.log)

pub returns-clause-played : goal.returns-clause-played
returns-clause-played c =
    is_restricted c.args.sealed.now c.in_ok-replay.field-0 c.in_ok-game.game c.net.result.now c.in_ok-setup.setup
    c.log.result.now c.args.places.now c.in_ok-set.set.items c.deref.result.now
    c.net.ensures (c.in_ok-setup.ensures ∙ c.setup.ensures.setup) c.log.ensures.log c.setup.ensures.normal
    c.in_ok-game.ensures c.log.ensures.kept c.log.ensures.replies
    c.deref.ensures.value c.in_ok-set.ensures.set c.in_ok-set.ensures.fit c.in_ok-replay.ensures.log
    c.in_ok-replay.ensures.same c.in_ok-replay.ensures.replies
