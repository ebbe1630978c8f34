-- Agents that draw a chart: what the chart counts. Its nodes have at most the ports of all nodes but the black hole,
-- and each port pays for two changes. Once it has all nodes, it shows exactly the ports that lead to the black hole.
use Rattle.std.proofs.Common.{ℕ, zero, suc, ◌+◌, ◌-◌, ◌*◌, ◌<◌, ◌≤◌, ◌≡◌, Bool, true, false, not, ◌==◌, ◌&&◌, List}
use Rattle.std.proofs.Common.{length}
use Rattle.std.proofs.Common.{refl, sym, ap, ◌∙◌, subst, inl, inr, arith}
use Rattle.std.specs.Prelude.{sum_by, count_by}
use Rattle.std.proofs.Math.Nat.{mul-le-mul_left}
use Rattle.std.proofs.lemmas.Bool.{true≢false, eq-eqb}
use Rattle.std.proofs.lemmas.Bool.Decides.{eqb_tells}
use Rattle.bhs_net.specs.Network.{IsPortLabelled, degree_of}
use Rattle.bhs_protocols_charts.specs.Charts.{Chart, ChartRow, done, free, new_row, row_at, state_at, is_open, is_sure}
use Rattle.bhs_protocols_charts.specs.Charts.{ends_of, open_ends_of}
use Rattle.bhs_protocols_charts.proofs.Totals.{total, one_if, total_same, total_grows, total_constant, equal_summands}
use Rattle.bhs_protocols_charts.proofs.Totals.{sum_is_total, counted_is_total}
use Rattle.bhs_protocols_charts.proofs.HoleEnds as nodes
use Rattle.bhs_protocols_charts.proofs.HoleEnds.{ways_in}
use Rattle.bhs_protocols_charts.proofs.ChartState.{Game, IsDrawn, LeadsToRow, taken, taken_by, changes, paid, shared}
use Rattle.bhs_protocols_charts.proofs.ChartState.{most_paid, most_shared, ports, n as size, degree, far, refill}

module _ (game : Game) {chart : Chart} {place : ℕ → ℕ} {shown : ℕ → List ℕ} {reached : ℕ → Bool}
    (drawn : IsDrawn game chart place shown reached) where
  open game use {net, terms, tells, home, hole, can}

  rows : ℕ
  rows = length chart

  labelled : IsPortLabelled net
  labelled = can.network.labelled

  -- ---- sums over the chart

  -- a sum over the ports of the chart's nodes
  abbrev over_ports : (f : ℕ → ℕ → ℕ) → ℕ
  over_ports f = total (λ i. total (f i) (degree game (place i))) (length chart)

  sum_is : (f : ℕ → ℕ) → sum_by (λ it. sum_by f it.states) chart ≡ over_ports (λ i p. f (state_at chart i p))
  sum_is f = sum_is_total (λ (it : ChartRow). sum_by f it.states) chart (new_row 0 0 0)
      ∙ total_same (λ i. sum_by f (row_at chart i).states)
      (λ i. total (λ p. f (state_at chart i p)) (degree game (place i)))
      (length chart)
      (λ i lt. sum_is_total f (row_at chart i).states free
      ∙ ap (total (λ p. f (state_at chart i p))) (drawn.ports_are i lt))

  open_is : open_ends_of chart ≡ over_ports (λ i p. one_if (is_open (state_at chart i p)))
  open_is = sum_is_total (λ (it : ChartRow). count_by is_open it.states) chart (new_row 0 0 0)
      ∙ total_same (λ i. count_by is_open (row_at chart i).states)
      (λ i. total (λ p. one_if (is_open (state_at chart i p))) (degree game (place i))) (length chart)
      (λ i lt. counted_is_total is_open (row_at chart i).states free
      ∙ ap (total (λ p. one_if (is_open (state_at chart i p)))) (drawn.ports_are i lt))

  ends_are : ends_of chart ≡ total (λ i. degree game (place i)) (length chart)
  ends_are = sum_is_total (λ (it : ChartRow). length it.states) chart (new_row 0 0 0)
      ∙ total_same (λ i. length (row_at chart i).states) (λ i. degree game (place i)) (length chart) drawn.ports_are

  grows_over : (f g : ℕ → ℕ → ℕ) → ((i p : ℕ) → i < length chart → p < degree game (place i) → f i p ≤ g i p)
      → over_ports f ≤ over_ports g
  grows_over f g below = total_grows (λ i. total (f i) (degree game (place i)))
      (λ i. total (g i) (degree game (place i))) (length chart)
      (λ i lt. total_grows (f i) (g i) (degree game (place i)) (λ p has. below i p lt has))

  constant_over : (c : ℕ) → over_ports (λ i p. c) ≡ total (λ i. degree game (place i) * c) (length chart)
  constant_over c = total_same (λ i. total (λ p. c) (degree game (place i))) (λ i. degree game (place i) * c)
      (length chart) (λ i lt. total_constant c (degree game (place i)))

  -- ---- at most

  beside : ports game + degree_of net hole ≡ total (degree game) (size game)
  beside = nodes.beside_is net labelled hole can.within

  pub ends_few : ends_of chart ≤ ports game
  ends_few =
      let most = nodes.places_have (size game) hole can.within place (length chart) drawn.apart (degree game) in
      let all = beside in
      let is = ends_are in
      omega (arith, most, all, is)

  taken_small : (state : ℕ) → taken_by state ≤ 1
  taken_small zero = omega arith
  taken_small (suc state) = omega arith

  ones : total (λ i. degree game (place i) * 1) (length chart) ≡ total (λ i. degree game (place i)) (length chart)
  ones = total_same (λ i. degree game (place i) * 1) (λ i. degree game (place i)) (length chart) (λ i lt. omega arith)

  pub taken_few : taken chart ≤ ports game
  taken_few =
      let is = sum_is taken_by in
      let below = grows_over (λ i p. taken_by (state_at chart i p)) (λ i p. 1)
      (λ i p lt has. taken_small (state_at chart i p)) in
      let count = constant_over 1 in
      let one = ones in
      let ends = ends_are in
      let few = ends_few in
      omega (arith, is, below, count, one, ends, few)

  pub changes_few : changes chart ≤ 2 * ports game
  changes_few =
      let is = sum_is (λ state. state) in
      let below = grows_over (λ i p. state_at chart i p) (λ i p. 2) (λ i p lt has. drawn.states i p lt has) in
      let count = constant_over 2 in
      let twice : total (λ i. degree game (place i) * 2) (length chart)
      ≡ 2 * total (λ i. degree game (place i)) (length chart) = twice_all (λ i. degree game (place i)) (length chart) in
      let ends = ends_are in
      let few = ends_few in
      omega (arith, is, below, count, twice, ends, few)
    where
      twice_all : (f : ℕ → ℕ) (k : ℕ) → total (λ i. f i * 2) k ≡ 2 * total f k
      twice_all f zero = omega arith
      twice_all f (suc k) = let rest = twice_all f k in omega (arith, rest)

  pub paid_few : paid game chart ≤ most_paid game
  paid_few =
      let one = mul-le-mul_left (2 * size game - 1) taken_few in
      let other = mul-le-mul_left (refill game) changes_few in
      omega (arith, one, other)

  pub shared_few : shared game chart ≤ most_shared game
  shared_few = mul-le-mul_left terms.agents (mul-le-mul_left (2 * refill game) changes_few)

  pub rows_few : length chart + 1 ≤ size game
  rows_few = nodes.places_few (size game) hole can.within place (length chart) drawn.apart

  -- ---- what shows where the black hole is

  -- nobody has come back from the black hole
  leads_open : (i p : ℕ) → i < length chart → p < degree game (place i) → (far game (place i) p).0 ≡ hole
      → is_open (state_at chart i p) ≡ true
  leads_open i p lt has is = elim (eqb_tells (state_at chart i p) done) [
    | inl h ↦
        let to : LeadsToRow game chart place (far game (place i) p).0 = drawn.back i p lt has h.1 in
        absurd (drawn.apart.safe to.row to.within (sym to.is ∙ is))
    | inr h ↦ ap not h.0
  ]

  one_if_grows : (small great : Bool) → (small ≡ true → great ≡ true) → one_if small ≤ one_if great
  one_if_grows false great so = omega arith
  one_if_grows true great so = subst (λ (b : Bool). 1 ≤ one_if b) (sym (so refl)) (omega arith)

  one_if_same : (one other : Bool) → one_if one ≡ one_if other → other ≡ true → one ≡ true
  one_if_same true other same is = refl
  one_if_same false other same is = let so : one_if other ≡ 1 = ap one_if is in absurd (omega (arith, same, so))

  module _ (all : length chart + 1 ≡ size game) where
    lead_as_many : over_ports (λ i p. one_if ((far game (place i) p).0 == hole)) ≡ degree_of net hole
    lead_as_many =
        let sum = nodes.all_have (size game) hole can.within place (length chart) drawn.apart all
        (ways_in net labelled hole can.within) in
        let none = nodes.hole_has_none net labelled hole can.within in
        let are = nodes.ways_in_are net labelled hole can.within in
        omega (arith, sum, none, are)

    ends_all : ends_of chart ≡ ports game
    ends_all =
        let sum = nodes.all_have (size game) hole can.within place (length chart) drawn.apart all (degree game) in
        let are = beside in
        let is = ends_are in
        omega (arith, sum, are, is)

    told : tells (ends_of chart) ≡ degree_of net hole
    told = ap tells ends_all ∙ can.told

    below_open : (i p : ℕ) → i < length chart → p < degree game (place i)
        → one_if ((far game (place i) p).0 == hole) ≤ one_if (is_open (state_at chart i p))
    below_open i p lt has = one_if_grows ((far game (place i) p).0 == hole) (is_open (state_at chart i p))
        (λ is. leads_open i p lt has (eqb_is (far game (place i) p).0 hole is))
      where
        eqb_is : (a b : ℕ) → (a == b) ≡ true → a ≡ b
        eqb_is a b is = elim (eqb_tells a b) [
          | inl h ↦ h.1
          | inr h ↦ absurd (true≢false (sym is ∙ h.0))
        ]

    -- if as many ports are open as the black hole has links, each of them leads there
    pub open_leads : open_ends_of chart ≡ tells (ends_of chart) → (i p : ℕ) → i < length chart
        → p < degree game (place i) → is_open (state_at chart i p) ≡ true → (far game (place i) p).0 ≡ hole
    open_leads count i p lt has is =
        let sums : over_ports (λ j q. one_if (is_open (state_at chart j q)))
        ≤ over_ports (λ j q. one_if ((far game (place j) q).0 == hole)) =
        let many = lead_as_many in
        let open_many = open_is in
        let so = told in
        omega (arith, many, open_many, so, count) in
        let row : total (λ q. one_if ((far game (place i) q).0 == hole)) (degree game (place i))
        ≡ total (λ q. one_if (is_open (state_at chart i q))) (degree game (place i)) =
        equal_summands (λ j. total (λ q. one_if ((far game (place j) q).0 == hole)) (degree game (place j)))
        (λ j. total (λ q. one_if (is_open (state_at chart j q))) (degree game (place j))) (length chart)
        (λ j below. total_grows (λ q. one_if ((far game (place j) q).0 == hole))
        (λ q. one_if (is_open (state_at chart j q))) (degree game (place j)) (λ q it. below_open j q below it))
        sums i lt in
        let same : one_if ((far game (place i) p).0 == hole) ≡ one_if (is_open (state_at chart i p)) =
        equal_summands (λ q. one_if ((far game (place i) q).0 == hole)) (λ q. one_if (is_open (state_at chart i q)))
        (degree game (place i)) (λ q it. below_open i q lt it) (omega (arith, row)) p has in
        eqb_is (far game (place i) p).0 hole
        (one_if_same ((far game (place i) p).0 == hole) (is_open (state_at chart i p)) same is)
      where
        eqb_is : (a b : ℕ) → (a == b) ≡ true → a ≡ b
        eqb_is a b is = elim (eqb_tells a b) [
          | inl h ↦ h.1
          | inr h ↦ absurd (true≢false (sym is ∙ h.0))
        ]

    -- if all that are open lead there, the chart is sure
    pub all_lead : ((i p : ℕ) → i < length chart → p < degree game (place i) → is_open (state_at chart i p) ≡ true
        → (far game (place i) p).0 ≡ hole)
        → is_sure (size game) tells chart ≡ true
    all_lead lead =
        let above : over_ports (λ i p. one_if (is_open (state_at chart i p)))
        ≤ over_ports (λ i p. one_if ((far game (place i) p).0 == hole)) =
        grows_over (λ i p. one_if (is_open (state_at chart i p))) (λ i p. one_if ((far game (place i) p).0 == hole))
        (λ i p lt has. one_if_grows (is_open (state_at chart i p)) ((far game (place i) p).0 == hole)
        (λ is. eq-eqb (far game (place i) p).0 hole (lead i p lt has is))) in
        let below : over_ports (λ i p. one_if ((far game (place i) p).0 == hole))
        ≤ over_ports (λ i p. one_if (is_open (state_at chart i p))) =
        grows_over (λ i p. one_if ((far game (place i) p).0 == hole)) (λ i p. one_if (is_open (state_at chart i p)))
        below_open in
        let count : open_ends_of chart ≡ tells (ends_of chart) =
        let many = lead_as_many in
        let open_many = open_is in
        let so = told in
        omega (arith, above, below, many, open_many, so) in
        both_true (length chart + 1 == size game) (open_ends_of chart == tells (ends_of chart))
        (eq-eqb (length chart + 1) (size game) all)
        (eq-eqb (open_ends_of chart) (tells (ends_of chart)) count)
      where
        both_true : (one other : Bool) → one ≡ true → other ≡ true → (one && other) ≡ true
        both_true one other first second = ap (λ (b : Bool). b && other) first ∙ second

  -- a sure chart has all nodes, and as many ports are open as the black hole has links
  pub sure_parts : is_sure (size game) tells chart ≡ true
      → (length chart + 1 ≡ size game) × (open_ends_of chart ≡ tells (ends_of chart))
  sure_parts is = elim (eqb_tells (length chart + 1) (size game)) [
    | inl h ↦ elim (eqb_tells (open_ends_of chart) (tells (ends_of chart))) [
      | inl it ↦ (h.1, it.1)
      | inr it ↦ absurd (true≢false (sym is
          ∙ (λ i. (length chart + 1 == size game) && it.0 i) ∙ no_right (length chart + 1 == size game)))
    ]
    | inr h ↦ absurd (true≢false (sym is
        ∙ ap (λ (b : Bool). b && (open_ends_of chart == tells (ends_of chart))) h.0))
  ]
    where
      no_right : (b : Bool) → (b && false) ≡ false
      no_right true = refl
      no_right false = refl

  pub none_open : ((i p : ℕ) → i < length chart → p < degree game (place i) → is_open (state_at chart i p) ≡ false)
      → open_ends_of chart ≡ 0
  none_open none =
      let is = open_is in
      let zero_each = total_same (λ i. total (λ p. one_if (is_open (state_at chart i p))) (degree game (place i)))
      (λ i. 0) (length chart)
      (λ i lt. total_same (λ p. one_if (is_open (state_at chart i p))) (λ p. 0) (degree game (place i))
      (λ p has. ap one_if (none i p lt has))
      ∙ total_constant 0 (degree game (place i)) ∙ no_times (degree game (place i))) in
      let all = total_constant 0 (length chart) in
      let none_all = no_times (length chart) in
      omega (arith, is, zero_each, all, none_all)
    where
      no_times : (k : ℕ) → k * 0 ≡ 0
      no_times k = omega arith

  -- some port of a sure chart is open
  pub sure_some : is_sure (size game) tells chart ≡ true → 0 < degree_of net hole → 0 < open_ends_of chart
  sure_some is some =
      let parts = sure_parts is in
      let so = told parts.0 in
      let count = parts.1 in
      omega (arith, so, count, some)
