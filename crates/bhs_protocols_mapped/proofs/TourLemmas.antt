-- The ring of a tour is a part of its network, so two agents search the network by halves.
use Rattle.std.proofs.Common.{ℕ, zero, suc, ◌+◌, ◌-◌, ◌<◌, ◌≤◌, ◌≡◌, [], ◌∷◌, refl, sym, ap, ◌∙◌, subst, inl, inr}
use Rattle.std.proofs.Common.{arith}
use Rattle.std.specs.Prelude.{◌≢◌}
use Rattle.std.proofs.lemmas.Bool.Decides.{eqb_tells}
use Rattle.bhs_model.specs.Worlds.{Network, World}
use Rattle.bhs_protocols.specs.Programs.{strategies_by}
use Rattle.bhs_protocols.specs.Rings.{Ways, IsRing, IsSearch}
use Rattle.bhs_protocols.specs.Halves.{halves}
use Rattle.bhs_protocols.specs.HalvesLaws.{halves_bounds}
use Rattle.bhs_protocols.specs.Halving.{most_moves}
use Rattle.bhs_protocols.specs.Attained.{worst_distance}
use Rattle.bhs_protocols.proofs.HalvesLemmas.{halves_solve}
use Rattle.bhs_protocols.proofs.HalvesWorst.{halves_attain, worst_is_within}
use Rattle.bhs_protocols_mapped.specs.Parts.{IsPart, PartsSuffice, PartsAttain}
use Rattle.bhs_protocols_mapped.specs.Tours.{Tour, IsTour, HasOneHole, far_on, ring_of, port_of}
use Rattle.bhs_protocols_mapped.specs.Tours.{HalvesSolveWithATour, HalvesAttainWithATour}
use Rattle.bhs_protocols_mapped.proofs.Followed.{follows, attains}

pub parts_suffice : PartsSuffice
parts_suffice world part port wakeups strategies is bounds solved =
    follows world part port wakeups strategies is bounds solved

pub parts_attain : PartsAttain
parts_attain world part port wakeups strategies is most it = attains world part port wakeups strategies is most it

pair_is : {a b c d : ℕ} → a ≡ c → b ≡ d → ◌≡◌ {A = ℕ × ℕ} (a, b) (c, d)
pair_is h k i = (h i, k i)

module _ (world : World) (n hole wakeups : ℕ) (tour : Tour) (is : IsTour world.net world.home n tour)
    (set : HasOneHole world hole) where
  abbrev net : Network
  net = world.net

  -- The tour visits this node at some index.
  record Comes (node : ℕ) : Type 0 where
    step : ℕ
    below : step < n
    there : tour.node (step + 1) ≡ node

  comes_from : (step : ℕ) → step < n → Comes (tour.node step)
  comes_from zero below =
      let index : n - 1 + 1 ≡ n = omega (arith, below) in
      record { step = n - 1; below = omega (arith, below); there = ap tour.node index ∙ is.round ∙ sym is.start }
  comes_from (suc step) below =
      let index : step + 1 ≡ suc step = omega arith in
      record { step = step; below = omega (arith, below); there = ap tour.node index }

  comes_to : (node : ℕ) → node < n → Comes node
  comes_to node below =
      let it = is.all node below in subst Comes it.2 (comes_from it.0 it.1)

  next_within : (step : ℕ) → step < n → tour.node (step + 1) < n
  next_within step below = elim (eqb_tells (step + 1) n) [
    | inl h ↦
        let first : tour.node 0 < n = is.within 0 (omega (arith, below)) in
        subst (λ (v : ℕ). v < n) (is.start ∙ sym is.round ∙ sym (ap tour.node h.1)) first
    | inr h ↦ is.within (step + 1) (omega (arith, below, h.1))
  ]

  ports : (node it : ℕ) → node < n → it < 2 → port_of net tour node it < net.degree node
  ports node zero below small =
      let at = is.all node below in
      subst (λ (v : ℕ). tour.ahead v < net.degree v) at.2 (is.ahead at.0 at.1)
  ports node (suc zero) below small =
      let at : Comes node = comes_to node below in
      subst (λ (v : ℕ). tour.behind v < net.degree v) at.there (is.behind at.step at.below)
  ports node (suc (suc it)) below small = absurd (omega (arith, small))

  beyond : (node it : ℕ) → 2 ≤ it → net.degree node ≤ port_of net tour node it
  beyond node zero more = absurd (omega (arith, more))
  beyond node (suc zero) more = absurd (omega (arith, more))
  beyond node (suc (suc it)) more = omega arith

  same_far : (node it : ℕ) → it < 2 → (net.far node (port_of net tour node it)).0 ≡ (far_on net tour node it).0
  same_far node zero small = refl
  same_far node (suc zero) small = refl
  same_far node (suc (suc it)) small = absurd (omega (arith, small))

  far_within : (node it : ℕ) → node < n → it < 2 → (far_on net tour node it).0 < n
  far_within node zero below small =
      let at = is.all node below in
      subst (λ (v : ℕ). (net.far v (tour.ahead v)).0 < n) at.2
      (subst (λ (v : ℕ). v < n) (sym (is.on at.0 at.1)) (next_within at.0 at.1))
  far_within node (suc zero) below small =
      let at : Comes node = comes_to node below in
      subst (λ (v : ℕ). (net.far v (tour.behind v)).0 < n) at.there
      (subst (λ (v : ℕ). v < n) (sym (is.back at.step at.below)) (is.within at.step at.below))
  far_within node (suc (suc it)) below small = absurd (omega (arith, small))

  part : IsPart world (ring_of net n tour) (port_of net tour)
  part = record {
    home = let three : 3 ≤ n = is.three in
        subst (λ (v : ℕ). v < n) is.start (is.within 0 (omega (arith, three)));
    size = sym is.size;
    ports = ports;
    beyond = λ node it below more. beyond node it more;
    far = λ node it below small. same_far node it small;
    within = far_within;
    none_dark = set.dark;
  }

  -- ---- the ring of the tour

  abbrev inner : World
  inner = record world { net = ring_of net n tour }

  abbrev node_on : (side step : ℕ) → ℕ
  node_on zero step = tour.node step
  node_on (suc side) step = tour.node (n - step)

  abbrev ways : Ways
  ways = record { node = node_on; ahead = λ side step. side }

  starts : (side : ℕ) → node_on side 0 ≡ world.home
  starts zero = is.start
  starts (suc side) = let index : n - 0 ≡ n = omega arith in ap tour.node index ∙ is.round

  goes_out : (side step : ℕ) → side < 2 → step + 1 < n
      → far_on net tour (node_on side step) side ≡ (node_on side (step + 1), 1 - side)
  goes_out zero step small below = pair_is (is.on step (omega (arith, below))) (omega arith)
  goes_out (suc zero) step small below =
      let left_over : ℕ = n - (step + 1) in
      let index : left_over + 1 ≡ n - step = omega (arith, below) in
      subst (λ (j : ℕ). far_on net tour (tour.node j) 1 ≡ (tour.node left_over, 1 - 1)) index
      (pair_is (is.back left_over (omega (arith, below))) (omega arith))
  goes_out (suc (suc side)) step small below = absurd (omega (arith, small))

  goes_back : (side step : ℕ) → side < 2 → step + 1 < n
      → far_on net tour (node_on side (step + 1)) (1 - side) ≡ (node_on side step, side)
  goes_back zero step small below =
      let port : 1 - 0 ≡ 1 = omega arith in
      ap (far_on net tour (tour.node (step + 1))) port ∙ pair_is (is.back step (omega (arith, below))) refl
  goes_back (suc zero) step small below =
      let left_over : ℕ = n - (step + 1) in
      let index : left_over + 1 ≡ n - step = omega (arith, below) in
      let port : 1 - 1 ≡ 0 = omega arith in
      ap (far_on net tour (tour.node left_over)) port
      ∙ pair_is (is.on left_over (omega (arith, below)) ∙ ap tour.node index) refl
  goes_back (suc (suc side)) step small below = absurd (omega (arith, small))

  ring : IsRing inner n ways
  ring = record {
    three = is.three;
    size = refl;
    home = starts;
    first = λ side below. refl;
    two = λ side step small below. refl;
    port = λ side step small below. small;
    out = goes_out;
    back = goes_back;
    around = λ step rest sum some some_too. ap tour.node (omega (arith, sum));
    apart = is.apart;
    all = is.all;
  }

  searches : (step : ℕ) → step < n → tour.node step ≡ hole → IsSearch inner n step (n - step) ways
  searches step below at = record {
    ring = ring;
    sum = omega (arith, below);
    not_home = positive step (λ none. set.not_home (sym at ∙ ap tour.node none ∙ is.start));
    nor_around = omega (arith, below);
    hole = set.holes ∙ ap (λ (k : ℕ). k ∷ []) (sym at);
    none_dark = set.dark;
    agents = set.agents;
  }
    where
      positive : (k : ℕ) → k ≢ 0 → 0 < k
      positive k some = omega (arith, some)

pub halves_solve_with_a_tour : HalvesSolveWithATour
halves_solve_with_a_tour world n hole wakeups tour is set room enough =
    let below : hole < n = subst (λ (k : ℕ). hole < k) is.size set.within in
    let at = is.all hole below in
    follows world (ring_of world.net n tour) (port_of world.net tour) wakeups (strategies_by (halves n))
    (part world n hole wakeups tour is set) (halves_bounds n)
    (halves_solve (inner world n hole wakeups tour is set) n at.0 (n - at.0) wakeups
    (ways world n hole wakeups tour is set)
    (searches world n hole wakeups tour is set at.0 at.1 at.2) room enough)

pub halves_attain_with_a_tour : HalvesAttainWithATour
halves_attain_with_a_tour world n wakeups tour is set room enough =
    let hole : ℕ = tour.node (worst_distance n) in
    let within = worst_is_within n is.three in
    attains world (ring_of world.net n tour) (port_of world.net tour) wakeups (strategies_by (halves n))
    (part world n hole wakeups tour is set) (most_moves n)
    (halves_attain (inner world n hole wakeups tour is set) n (n - worst_distance n) wakeups
    (ways world n hole wakeups tour is set)
    (searches world n hole wakeups tour is set (worst_distance n) within.1 refl) room enough)
