-- A member of the family is 2-connected: without one node, the cycle is still a path, and each hub has links to several
-- cycle nodes.
use Rattle.std.proofs.Common.{ℕ, ◌+◌, ◌-◌, ◌*◌, ◌<◌, ◌≤◌, ◌≡◌, refl, sym, ap}
use Rattle.std.proofs.Common.{◌∙◌, subst, inl, inr, arith}
use Rattle.std.specs.Prelude.{◌≢◌}
use Rattle.std.proofs.lemmas.Bool.{cases_lt}
use Rattle.std.proofs.lemmas.Bool.Decides.{eqb_tells}
use Rattle.bhs_net.specs.declared.faults.TheConstants.{MAX_NODES}
use Rattle.bhs_net.specs.Network.{Network, IsNetwork, Leads}
use Rattle.bhs_net.specs.Paths.{IsPath, Without}
use Rattle.bhs_net.specs.Search.{ReachesAll}
use Rattle.bhs_net.proofs.Walks.{IsPath-more, Leads-back, joined_without, connected}
use Rattle.bhs_protocols.proofs.Cycles.{IsCycle, IsStart, some_start}
use Rattle.bhs_protocols_unmapped.proofs.Cycle.{Member, IsMember, beside, next_is, before_is, hub_end, slot_at}
use Rattle.bhs_protocols_unmapped.proofs.Cycle.{slot_at_is}
use Rattle.bhs_protocols_unmapped.proofs.Rows.{net_of, size, labelled, link_leads, hub_leads}

module _ (d : ℕ) (three : 3 ≤ d) (fits : 2 * d + 2 ≤ MAX_NODES) (member : Member) (is : IsMember d member) where
  abbrev net : Network
  net = net_of d member

  leads_next : (node : ℕ) → node + 1 < 2 * d → Leads net node (node + 1)
  leads_next node below = elim (next_is d node) [
    | inl h ↦ absurd (omega (arith, h.0, below))
    | inr h ↦ subst (Leads net node) h.1
        (link_leads d three fits member is node 0 (omega (arith, below)) (omega arith))
  ]

  leads_before : (node : ℕ) → node + 1 < 2 * d → Leads net (node + 1) node
  leads_before node below = elim (before_is d (node + 1)) [
    | inl h ↦ absurd (omega (arith, h.0))
    | inr h ↦
        let it : beside d (node + 1) 1 ≡ node = h.1 ∙ (let same : node + 1 - 1 ≡ node = omega arith in same) in
        subst (Leads net (node + 1)) it
        (link_leads d three fits member is (node + 1) 1 below (omega arith))
  ]

  leads_round : Leads net 0 (2 * d - 1)
  leads_round = elim (before_is d 0) [
    | inl h ↦ subst (Leads net 0) h.1 (link_leads d three fits member is 0 1 (omega (arith, three)) (omega arith))
    | inr h ↦ absurd (h.0 refl)
  ]

  cycle : IsCycle net (2 * d)
  cycle = record { three = omega (arith, three); onward = leads_next; back = leads_before; around = leads_round }

  module _ (cut : ℕ) where
    abbrev Step : ℕ → ℕ → Type 0
    Step = Without cut (Leads net)

    from : IsStart net (2 * d) cut
    from = some_start net (2 * d) cycle cut

    -- a hub has two links to nodes that differ
    hub_reached : (hub : ℕ) → 2 * d ≤ hub → hub < 2 * d + 2 → hub ≢ cut → IsPath Step from.start hub
    hub_reached hub after before off = elim (eqb_tells (member.owner (slot_at d hub 0)) cut) [
      | inr h ↦ by_port 0 (omega (arith, three)) h.1
      | inl h ↦ by_port 1 (omega (arith, three)) (λ same.
          let zeroth = slot_at_is d hub 0 after before (omega (arith, three)) in
          let first = slot_at_is d hub 1 after before (omega (arith, three)) in
          let slots : slot_at d hub 0 ≡ slot_at d hub 1 =
          sym (is.slot_of_owner (slot_at d hub 0)) ∙ ap member.slot (h.1 ∙ sym same)
          ∙ is.slot_of_owner (slot_at d hub 1) in
          let ports : 0 ≡ 1 =
          ap (λ (e : ℕ × ℕ). e.1) (sym zeroth.back ∙ ap (hub_end d) slots ∙ first.back) in
          omega (arith, ports))
    ]
      where
        by_port : (port : ℕ) → port < d → member.owner (slot_at d hub port) ≢ cut → IsPath Step from.start hub
        by_port port small apart =
            let owner : ℕ = member.owner (slot_at d hub port) in
            let at = slot_at_is d hub port after before small in
            IsPath-more Step from.start owner hub
            (from.reaches owner (is.owner_below (slot_at d hub port) at.below) apart) (
              Leads-back net (labelled d three fits member is) hub owner
                  (hub_leads d three fits member is hub port after before small),
              apart,
              off,
            )

    reaches_all : ReachesAll net from.start cut
    reaches_all node below off = elim (cases_lt node (2 * d)) [
      | inl h ↦ from.reaches node h off
      | inr h ↦ hub_reached node h (subst (λ (n : ℕ). node < n) (size d member) below) off
    ]

  pub is_network : IsNetwork net
  is_network = record {
    labelled = labelled d three fits member is;
    connected = connected net (labelled d three fits member is) (from (2 * d + 2)).start (2 * d + 2)
        (subst (λ (n : ℕ). n ≤ 2 * d + 2) (sym (size d member)) (omega arith)) (reaches_all (2 * d + 2));
    biconnected = λ cut below. joined_without net (labelled d three fits member is) (from cut).start cut
        (reaches_all cut);
  }
