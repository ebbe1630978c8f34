use Rattle.std.proofs.Common.{ℕ, Option, List, [], length, inr, refl, sym, ap, ap₂, ◌∙◌}
use Rattle.bhs_net.specs.Network.{Network, nodes_of}
use Rattle.bhs_model.specs.declared.setups.Setup.{Setup}
use Rattle.bhs_view.specs.Twins.{moved}
use Rattle.bhs_match.specs.Matches.{Play}
use Rattle.bhs_model.specs.declared.marks.Kept.{Kept}
use Rattle.bhs_model.specs.Setups.{normal}
use Rattle.bhs_view.proofs.TwinReadLemmas.{counted, left_count, read_arrival, read_hole, read_left, twin_setup}
use Rattle.bhs_view.proofs.TwinReadLemmas.{fits_twin, fault_is, ended_of}
use Rattle.bhs_view.proofs.TwinPlayLemmas.{has_twin}
use Rattle.bhs_view.proofs.twins.twin_of.Goals as goal

abbrev begun_on : Network → Setup → Play
begun_on net setup = record { net = net; setup = normal net setup; log = [] }

pub first_arrival-requires-clause-sites : goal.first_arrival-requires-clause-sites
first_arrival-requires-clause-sites c = counted c.read.ensures

pub replaced-old-requires : goal.replaced-old-requires
replaced-old-requires c = record {
  sites = counted c.read.ensures;
}

pub left-requires : goal.left-requires
left-requires c = record {
  sites = counted c.read.ensures;
}

pub returns-in-Some-clause-fault : goal.returns-in-Some-clause-fault
returns-in-Some-clause-fault c =
    let reached = read_arrival c.args.sealed.now c.read.result.net.now c.read.result.setup.now c.read.result.log.now
    c.args.node c.read.result.sites.now c.first_arrival.result c.read.ensures c.first_arrival.ensures in
    inr (fault_is c.args.sealed.now c.read.result.net.now c.read.result.setup.now c.nodes-nodes.result c.args.node
    c.contains.result _ c.read.ensures.net c.read.ensures.setup c.nodes-nodes.ensures.count
    c.if-node-nodes.false c.if-node-setup.false c.contains.ensures c.if-contains.false (reached ∙ c.in-Some.is))

pub begun-requires : goal.begun-requires
begun-requires c =
    fits_twin c.args.sealed.now c.read.result.net.now _ c.replaced-old.result c.args.node c.read.ensures.net
    c.read.ensures.network.labelled
    c.read.ensures.within c.read.ensures.normal
    (λ same. c.if-node-setup.false (same ∙ ap (λ (setup : Setup). setup.home) (sym c.read.ensures.setup)))
    (twin_setup c.args.sealed.now c.read.result.net.now c.read.result.setup.now c.in_ok-try_clone.field-0
    c.in_ok-holes.holes c.replaced-old.result c.args.node c.read.ensures.net c.read.ensures.setup
    c.in_ok-try_clone.ensures c.in_ok-holes.ensures)

pub returns : goal.returns
returns c =
    let play = c.args.sealed.now in
    let net = c.read.result.net.now in
    let setup = c.read.result.setup.now in
    let log = c.read.result.log.now in
    let found = c.read.result.sites.now in
    let old = read_hole play net setup log found c.replaced-old.result c.read.ensures c.replaced-old.ensures in
    let unreached = read_arrival play net setup log c.args.node found c.first_arrival.result c.read.ensures
    c.first_arrival.ensures in
    let moved_setup = twin_setup play net setup c.in_ok-try_clone.field-0 c.in_ok-holes.holes c.replaced-old.result
    c.args.node c.read.ensures.net c.read.ensures.setup c.in_ok-try_clone.ensures c.in_ok-holes.ensures in
    record {
      start = c.in_ok-start.ensures ∙ ap₂ begun_on c.read.ensures.net
          (moved_setup ∙ ap (λ (old : Option ℕ). moved play.net play.setup old c.args.node) old);
      left = read_left play net setup log found c.replaced-old.result c.in_ok-left.left.items c.in_ok-left.left.items
          c.read.ensures old c.in_ok-left.ensures refl;
      count = ap length c.in_ok-left.ensures
          ∙ left_count c.replaced-old.result log found (counted c.read.ensures)
          ∙ ap (λ (log : List Kept). length log) c.read.ensures.log;
      twin = has_twin play c.args.node (ended_of play net setup log found c.read.ensures)
          (rw (sym (c.nodes-nodes.ensures.count ∙ ap nodes_of c.read.ensures.net)) c.if-node-nodes.false)
          (unreached ∙ c.in_default.is);
      fit = fault_is play net setup c.nodes-nodes.result c.args.node c.contains.result _ c.read.ensures.net
          c.read.ensures.setup c.nodes-nodes.ensures.count c.if-node-nodes.false c.if-node-setup.false
          c.contains.ensures c.if-contains.false (unreached ∙ c.in_default.is);
      fault = tt;
    }
