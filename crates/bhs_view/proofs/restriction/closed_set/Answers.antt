use Rattle.std.proofs.Common.{None, inr, List, length, sym, ap, ◌∙◌}
use Rattle.bhs_net.specs.Network.{nodes_of}
use Rattle.bhs_model.specs.declared.marks.Kept.{Kept}
use Rattle.bhs_model.specs.declared.setups.Setup.{Setup}
use Rattle.bhs_view.specs.Restrictions.{fault_of}
use Rattle.bhs_view.specs.Walks.{Needed, footprints_at}
use Rattle.bhs_view.proofs.CutLemmas.{known, length_none, range_there}
use Rattle.bhs_view.proofs.ClosedLemmas.{judged_fault}
use Rattle.bhs_view.proofs.SetLemmas.{IsSetOf, set_same}
use Rattle.bhs_view.proofs.restriction.closed_set.Goals as goal

pub unclosed-requires-clause-sites : goal.unclosed-requires-clause-sites
unclosed-requires-clause-sites c =
    c.read.ensures.count ∙ ap (λ (log : List Kept). length log) (sym c.read.ensures.log)

pub unclosed-requires-clause-range : goal.unclosed-requires-clause-range
unclosed-requires-clause-range c =
    range_there _ _ _ _ _ _
    (ap (λ (needed : Needed). length needed.agents) c.in_ok-needed.ensures ∙ length_none c.read.result.setup.now.agents
    ∙ ap (λ (setup : Setup). setup.agents) c.read.ensures.setup)
    (ap (λ (needed : Needed). length needed.nodes) c.in_ok-needed.ensures ∙ length_none c.nodes-nodes.result
    ∙ c.nodes-nodes.ensures.count ∙ ap nodes_of c.read.ensures.net)
    (ap (λ (log : List Kept). footprints_at log c.read.result.sites.now) c.read.ensures.log)
    (known _ _ _ _ _ c.read.ensures).range

pub returns-in-Some-unclosed-clause-fault : goal.returns-in-Some-unclosed-clause-fault
returns-in-Some-unclosed-clause-fault c =
    let are : IsSetOf c.in_ok-set.set.items c.args.places.now (length c.read.result.log.now) =
    record { count = c.in_ok-set.ensures.length; marks = c.in_ok-set.ensures.marks } in
    let told = judged_fault c.args.sealed.now c.args.places.now c.read.result.log.now c.read.result.sites.now
    c.in_ok-set.set.items c.deref.result.now c.misplaced.result c.unclosed.result
    c.read.ensures.log c.deref.ensures.value (known _ _ _ _ _ c.read.ensures) are c.misplaced.ensures in
    inr (told c.in_default.is c.unclosed.ensures ∙ ap (fault_of None) c.in-Some-unclosed.is)

pub returns-clause-set : goal.returns-clause-set
returns-clause-set c =
    let are : IsSetOf c.in_ok-set.set.items c.args.places.now (length c.read.result.log.now) =
    record { count = c.in_ok-set.ensures.length; marks = c.in_ok-set.ensures.marks } in
    set_same c.in_ok-set.set.items c.args.places.now c.args.sealed.now.log (rw c.read.ensures.log at are)

pub returns-clause-fit : goal.returns-clause-fit
returns-clause-fit c =
    let are : IsSetOf c.in_ok-set.set.items c.args.places.now (length c.read.result.log.now) =
    record { count = c.in_ok-set.ensures.length; marks = c.in_ok-set.ensures.marks } in
    let told = judged_fault c.args.sealed.now c.args.places.now c.read.result.log.now c.read.result.sites.now
    c.in_ok-set.set.items c.deref.result.now c.misplaced.result c.unclosed.result
    c.read.ensures.log c.deref.ensures.value (known _ _ _ _ _ c.read.ensures) are c.misplaced.ensures in
    told c.in_default.is c.unclosed.ensures ∙ ap (fault_of None) c.in_default-unclosed.is

pub returns-clause-network : goal.returns-clause-network
returns-clause-network c = c.read.ensures.network
