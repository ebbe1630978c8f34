-- A guide shows that its network is connected without any one node but the home base: the ways of side 0 keep off the
-- nodes that come later, and those of side 1 off the nodes that come earlier.
use Rattle.std.proofs.Common.{ℕ, zero, suc, ◌+◌, ◌-◌, ◌<◌, ◌≤◌, ◌≡◌, false, sym, ap, ◌∙◌, subst, nat_lt}
use Rattle.std.proofs.Common.{inl, inr, arith}
use Rattle.std.specs.Prelude.{◌≢◌}
use Rattle.std.proofs.lemmas.Bool.{lt-ltb, ltb-true, true≢false}
use Rattle.std.proofs.lemmas.Bool.Decides.{eqb_tells}
use Rattle.bhs_net.specs.Links.{End}
use Rattle.bhs_net.specs.Paths.{IsPath, Without}
use Rattle.bhs_net.specs.Network.{Network, Leads, nodes_of}
use Rattle.bhs_net.proofs.Walks as walks
use Rattle.bhs_model.specs.Setups.{network_of}
use Rattle.bhs_model.proofs.StepLemmas.{by_cases}
use Rattle.bhs_protocols_mapped.specs.Guides.{Route, IsRoute, HasGuide, OnlyNetworksHaveGuides}

module _ (net : Network) (home : ℕ) (has : HasGuide net home) (cut : ℕ) where
  abbrev n : ℕ
  n = nodes_of net

  abbrev node : (side place : ℕ) → ℕ
  node = has.guide.node

  abbrev Step : ℕ → ℕ → Type 0
  Step = Without cut (Leads net)

  -- a way keeps off a node that is not among the first nodes of its side
  module _ (side k : ℕ) (off : (place : ℕ) → place ≤ k → node side place ≢ cut)
      (is : IsRoute (network_of net) (node side) k (has.guide.route side k)) where
    abbrev route : Route
    route = has.guide.route side k

    within : (step : ℕ) → step ≤ route.steps → route.place step ≤ k
    within step few = elim (eqb_tells step route.steps) [
      | inl h ↦ let same : route.place step ≡ k = ap route.place h.1 ∙ is.last in omega (arith, same)
      | inr h ↦ let early : route.place step < k = is.early step (omega (arith, few, h.1)) in omega (arith, early)
    ]

    as_far : (step : ℕ) → step ≤ route.steps → IsPath Step (node side 0) (node side (route.place step))
    as_far zero few = subst (λ (place : ℕ). IsPath Step (node side 0) (node side place)) (sym is.first)
        (walks.IsPath-none Step (node side 0))
    as_far (suc step) few =
        let below : step < route.steps = omega (arith, few) in
        let index : step + 1 ≡ suc step = omega arith in
        let leads : Leads net (node side (route.place step)) (node side (route.place (step + 1))) =
        (route.ahead step, is.ahead step below, ap (λ (e : End). e.0) (is.out step below)) in
        subst (λ (j : ℕ). IsPath Step (node side 0) (node side (route.place j))) index
        (walks.IsPath-more Step (node side 0) (node side (route.place step)) (node side (route.place (step + 1)))
        (as_far step (omega (arith, few))) (
          leads,
          off (route.place step) (within step (omega (arith, few))),
          off (route.place (step + 1)) (within (step + 1) (omega (arith, few))),
        ))

    to_last : IsPath Step (node side 0) (node side k)
    to_last = subst (λ (place : ℕ). IsPath Step (node side 0) (node side place)) is.last
        (as_far route.steps (omega arith))

  -- Since no single node disconnects the network, a path from the home base avoids the cut node.
  keeps_off : home ≢ cut → cut < n → (other : ℕ) → other < n → other ≢ cut → IsPath Step home other
  keeps_off apart here other below off =
      let at = has.guides.all other below in
      let at_cut = has.guides.all cut here in
      let k : ℕ = at.0 in
      let c : ℕ = at_cut.0 in
      let small : k < n = at.1 in
      let small_too : c < n = at_cut.1 in
      let differ : k ≢ c = λ same. off (sym at.2 ∙ ap (node 0) same ∙ at_cut.2) in
      by_cases (nat_lt k c) (IsPath Step home other)
      (λ yes.
      let before : k < c = ltb-true k c yes in
      path_by 0 k other at.2 (omega arith) small (λ place early same.
      let there : place ≡ c =
      has.guides.apart place c (omega (arith, early, small)) small_too (same ∙ sym at_cut.2) in
      omega (arith, there, early, before)))
      (λ no_less.
      let after : c < k = after_is k c differ no_less in
      path_by 1 (n - k) other (has.guides.around (n - k) k (omega (arith, small)) (omega (arith, small))
      (omega (arith, after)) ∙ at.2) (omega arith) (omega (arith, small, after))
      (λ place early. off_late place c (n - place) small_too at_cut.2 (omega (arith, early, after))))
    where
      after_is : (k c : ℕ) → k ≢ c → nat_lt k c ≡ false → c < k
      after_is k c differ none =
          let not_below : (k < c) → ⊥ = λ h. true≢false (sym (lt-ltb k c h) ∙ none) in
          omega (arith, not_below, differ)

      path_by : (side place it : ℕ) → node side place ≡ it → side < 2 → place < n
          → ((j : ℕ) → j ≤ place → node side j ≢ cut) → IsPath Step home it
      path_by side place it is small below clear =
          subst (λ (v : ℕ). IsPath Step home v) is
          (subst (λ (start : ℕ). IsPath Step start (node side place)) (has.guides.start side)
          (to_last side place clear (has.guides.routes side place small below)))

      off_late : (place c rest : ℕ) → c < n → node 0 c ≡ cut → c < n - place → node 1 place ≢ cut
      off_late zero c rest small at later = λ same. apart (sym (has.guides.start 1) ∙ same)
      off_late (suc place) c rest small at later = λ same.
          let there : n - suc place ≡ c = has.guides.apart (n - suc place) c (omega (arith, later)) small
          (sym (has.guides.around (suc place) (n - suc place) (omega (arith, later)) (omega arith)
          (omega (arith, later))) ∙ same ∙ sym at) in
          omega (arith, there, later)

-- Of the numbers 0, 1 and 2, at least one differs from both `a` and `b`.
third : (a b : ℕ) → (c : ℕ) × (c < 3) × (c ≢ a) × (c ≢ b)
third a b = elim (eqb_tells 0 a) [
  | inl h ↦ elim (eqb_tells 1 b) [
    | inl e ↦ (2, omega arith, (λ s. omega (arith, s, h.1)), (λ s. omega (arith, s, e.1)))
    | inr e ↦ (1, omega arith, (λ s. omega (arith, s, h.1)), e.1)
  ]
  | inr h ↦ elim (eqb_tells 0 b) [
    | inl e ↦ elim (eqb_tells 1 a) [
      | inl d ↦ (2, omega arith, (λ s. omega (arith, s, d.1)), (λ s. omega (arith, s, e.1)))
      | inr d ↦ (1, omega arith, d.1, (λ s. omega (arith, s, e.1)))
    ]
    | inr e ↦ (0, omega arith, h.1, e.1)
  ]
]

pub only_networks_have_guides : OnlyNetworksHaveGuides
only_networks_have_guides net labelled has =
    let n : ℕ = nodes_of net in
    let joined : (cut : ℕ) → cut < n → (node other : ℕ) → node < n → other < n → node ≢ cut → other ≢ cut
    → IsPath (Without cut (Leads net)) node other =
    λ cut here node other below below_too off off_too.
    keeps_off net node (has node below) cut off here other below_too off_too in
    record {
      labelled = labelled;
      connected = λ node other below below_too.
          let it = third node other in
          let three : 3 ≤ n = labelled.few in
          walks.any_path net it.0 node other (joined it.0 (omega (arith, it.1, three)) node other below below_too
          (λ same. it.2 (sym same)) (λ same. it.3 (sym same)));
      biconnected = joined;
    }
