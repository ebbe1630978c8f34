-- In a network whose nodes have two links each, one comes round to the home base by going on, past each node once.
use Rattle.std.proofs.Common.{ℕ, zero, suc, ◌+◌, ◌-◌, ◌*◌, ◌<◌, ◌≤◌, ◌≡◌, ◌⊎◌, Bool, true, false, ◌&&◌, ◌==◌, List, []}
use Rattle.std.proofs.Common.{◌∷◌, length, map, refl, sym, ap, ◌∙◌, subst, inl, inr, arith, add-one, ◌||◌, nat_lt}
use Rattle.std.proofs.Common.{if◌then◌else◌}
use Rattle.std.specs.Prelude.{◌≢◌}
use Rattle.std.specs.List.{list_any, range_with_len}
use Rattle.std.proofs.Math.Dec.{eqb}
use Rattle.std.proofs.lemmas.Bool.{true≢false, eq-eqb, lt-ltb, ltb-true, eqb-true, cond-false, ne_eqb}
use Rattle.std.proofs.lemmas.Bool.Decides.{eqb_tells}
use Rattle.std.proofs.lemmas.List.FromFn.{get_or-map-range_with_len, length-map-range_with_len}
use Rattle.std.proofs.lemmas.Map.Steps.{length-le_from_distinct_below, le-length_from_below}
use Rattle.std.proofs.lemmas.Map.Keys.{IsDistinct-from_apart}
use Rattle.bhs_net.specs.Links.{End}
use Rattle.bhs_net.specs.Paths.{Path, IsPath}
use Rattle.bhs_net.specs.Network.{Network, IsPortLabelled, Leads, HasPort, nodes_of, degree_of, far_of}
use Rattle.bhs_model.specs.declared.setups.Setup.{Setup}
use Rattle.bhs_model.specs.Setups.{world_of}
use Rattle.bhs_model.proofs.StepLemmas.{by_cases}
use Rattle.bhs_protocols.specs.Rings.{IsRing}
use Rattle.bhs_protocols.specs.Shuttle.{round_trips, commands_on}
use Rattle.bhs_schedules.specs.Schedules.{Trial}
use Rattle.bhs_protocols.specs.Invariants.{CostBounds, IsSolved}
use Rattle.bhs_protocols.specs.Laws.{shuttle_trial, shuttle_bounds}
use Rattle.bhs_protocols.specs.AllRings.{IsSetOn, onward, gone_on, ways_of, IsAway, RingsAreRings, ring_bounds}
use Rattle.bhs_protocols.specs.AllRings.{ShuttleSolvesAllRings}
use Rattle.bhs_protocols.proofs.AloneOnNetworks.{is_node}
use Rattle.bhs_protocols.proofs.ShuttleLemmas.{shuttle_solves}

-- ---- counting

-- The value occurs among the function's values on an interval.
record IsValue (f : ℕ → ℕ) (start count q : ℕ) : Type 0 where
  place : ℕ
  after : start ≤ place
  before : place < start + count
  is : q ≡ f place

among : (f : ℕ → ℕ) (start count q : ℕ) → list_any (eqb q) (map f (range_with_len start count)) ≡ true
    → IsValue f start count q
among f start zero q any = absurd (true≢false (sym any))
among f start (suc count) q any = elim (eqb_tells q (f start)) [
  | inl h ↦ record { place = start; after = omega arith; before = omega arith; is = h.1 }
  | inr h ↦
      let rest : IsValue f (start + 1) count q =
      among f (start + 1) count q
      (sym (ap (λ (b : Bool). b || list_any (eqb q) (map f (range_with_len (start + 1) count)))
      h.0) ∙ any) in
      let after : start + 1 ≤ rest.place = rest.after in
      let before : rest.place < start + 1 + count = rest.before in
      record { place = rest.place; after = omega (arith, after); before = omega (arith, before); is = rest.is }
]

value_is_among : (f : ℕ → ℕ) (start count place q : ℕ) → start ≤ place → place < start + count → q ≡ f place
    → list_any (eqb q) (map f (range_with_len start count)) ≡ true
value_is_among f start zero place q after before is = absurd (omega (arith, after, before))
value_is_among f start (suc count) place q after before is = elim (eqb_tells q (f start)) [
  | inl h ↦ ap (λ (b : Bool). b || list_any (eqb q) (map f (range_with_len (start + 1) count))) h.0
  | inr h ↦
      let apart : start ≢ place = λ same. h.1 (is ∙ ap f (sym same)) in
      ap (λ (b : Bool). b || list_any (eqb q) (map f (range_with_len (start + 1) count))) h.0
      ∙ value_is_among f (start + 1) count place q (omega (arith, after, apart)) (omega (arith, before)) is
]

-- different numbers below one bound are no more than the bound
pub few_values : (f : ℕ → ℕ) (count bound : ℕ) → ((k : ℕ) → k < count → f k < bound)
    → ((i j : ℕ) → i < j → j < count → f i ≢ f j) → count ≤ bound
few_values f count bound below apart =
    let xs : List ℕ = map f (range_with_len 0 count) in
    let long : length xs ≡ count = length-map-range_with_len f 0 count in
    let within : length xs ≤ bound = length-le_from_distinct_below xs bound
    (IsDistinct-from_apart eqb xs (λ i j d less last.
    let short : j < count = omega (arith, last, long) in
    ne_eqb _ _ (λ same. apart i j less short
    (sym (get_or-map-range_with_len f 0 count i i d (omega (arith, less, short)) (omega arith)) ∙ same
    ∙ get_or-map-range_with_len f 0 count j j d short (omega arith)))))
    (λ q any. let it : IsValue f 0 count q = among f 0 count q any in
    let before : it.place < 0 + count = it.before in
    subst (λ (k : ℕ). k < bound) (sym it.is) (below it.place (omega (arith, before)))) in
    omega (arith, long, within)

-- values that are all numbers below a bound are as many at least
many_values : (f : ℕ → ℕ) (count bound : ℕ) → ((q : ℕ) → q < bound → IsValue f 0 count q) → bound ≤ count
many_values f count bound each =
    let xs : List ℕ = map f (range_with_len 0 count) in
    let long : length xs ≡ count = length-map-range_with_len f 0 count in
    let within : bound ≤ length xs = le-length_from_below xs bound (λ q below.
    let it : IsValue f 0 count q = each q below in
    value_is_among f 0 count it.place q it.after it.before it.is) in
    omega (arith, long, within)

pair_is : {a b c d : ℕ} → a ≡ c → b ≡ d → ◌≡◌ {A = End} (a, b) (c, d)
pair_is h k i = (h i, k i)

module _ (net : Network) (setup : Setup) (hole : ℕ) (is : IsSetOn net setup hole) where
  abbrev n : ℕ
  n = nodes_of net

  abbrev labelled : IsPortLabelled net
  labelled = is.network.labelled

  -- an end of a link
  record IsEnd (end : End) : Type 0 where
    node : end.0 < n
    port : end.1 < 2

  has_port : (end : End) → IsEnd end → HasPort net end
  has_port end it = let two : degree_of net end.0 ≡ 2 = is.two end.0 it.node in
      let small : end.1 < 2 = it.port in omega (arith, two, small)

  far_end_is : (end : End) → IsEnd end → IsEnd (far_of net end.0 end.1)
  far_end_is end it =
      let has : HasPort net (far_of net end.0 end.1) = labelled.within end.0 end.1 (has_port end it) in
      let node : (far_of net end.0 end.1).0 < n = is_node net _ _ has in
      let two : degree_of net (far_of net end.0 end.1).0 ≡ 2 = is.two _ node in
      record { node = node; port = omega (arith, has, two) }

  onward_is : (end : End) → IsEnd end → IsEnd (onward net end)
  onward_is end it = record { node = (far_end_is end it).node; port = omega arith }

  ends : (side steps : ℕ) → side < 2 → IsEnd (gone_on net (setup.home, side) steps)
  ends side zero below = record { node = is.home; port = below }
  ends side (suc steps) below = onward_is (gone_on net (setup.home, side) steps) (ends side steps below)

  -- the link ahead leads to the next node, and the link behind back
  out_of : (end : End) → IsEnd end → far_of net end.0 end.1 ≡ ((onward net end).0, 1 - (onward net end).1)
  out_of end it =
      let small : (far_of net end.0 end.1).1 < 2 = (far_end_is end it).port in
      pair_is refl (omega (arith, small))

  back_to : (end : End) → IsEnd end → far_of net (onward net end).0 (1 - (onward net end).1) ≡ end
  back_to end it =
      ap (λ (e : End). far_of net e.0 e.1) (sym (out_of end it)) ∙ labelled.back end.0 end.1 (has_port end it)

  -- the opposite port of the node
  abbrev turned : End → End
  turned end = (end.0, 1 - end.1)

  same_or_turned : (one two : End) → IsEnd one → IsEnd two → one.0 ≡ two.0 → (one ≡ two) ⊎ (two ≡ turned one)
  same_or_turned one two it too same =
      let small : one.1 < 2 = it.port in
      let small_too : two.1 < 2 = too.port in
      elim (eqb_tells one.1 two.1) [
        | inl h ↦ inl (pair_is same h.1)
        | inr h ↦ inr (pair_is (sym same) (omega (arith, small, small_too, h.1)))
      ]

  -- ---- the way by port 0

  abbrev path : ℕ → End
  path steps = gone_on net (setup.home, 0) steps

  on_path : (k : ℕ) → IsEnd (path k)
  on_path k = ends 0 k (omega arith)

  -- one never comes to a node again by the other way
  never_turned : (gap k : ℕ) → path (gap + k) ≡ turned (path k) → ⊥
  never_turned zero k same =
      let here : path (0 + k) ≡ path k = ap path (omega arith) in
      let small : (path k).1 < 2 = (on_path k).port in
      let port : (path k).1 ≡ 1 - (path k).1 = ap (λ (e : End). e.1) (sym here ∙ same) in
      omega (arith, small, port)
  never_turned (suc zero) k same =
      let index : 1 + k ≡ suc k = omega arith in
      let next : path (1 + k) ≡ path (suc k) = ap path index in
      labelled.no_loop (path k).0 (path k).1 (has_port (path k) (on_path k))
      (ap (λ (e : End). e.0) (sym next ∙ same))
  never_turned (suc (suc gap)) k same =
      let index : suc (suc gap) + k ≡ suc (suc gap + k) = omega arith in
      let last : path (suc (suc gap) + k) ≡ path (suc (suc gap + k)) = ap path index in
      let before : path (suc gap + k) ≡ far_of net (path k).0 (path k).1 =
      sym (back_to (path (suc gap + k)) (on_path (suc gap + k)))
      ∙ ap (λ (e : End). far_of net e.0 (1 - e.1)) (sym last ∙ same)
      ∙ ap (λ (port : ℕ). far_of net (path k).0 port) (twice (path k).1 (on_path k).port) in
      let shifted : path (gap + suc k) ≡ path (suc gap + k) = ap path (omega arith) in
      never_turned gap (suc k) (shifted ∙ before ∙ out_of (path k) (on_path k))
    where
      twice : (port : ℕ) → port < 2 → 1 - (1 - port) ≡ port
      twice port small = omega (arith, small)

  -- If the path visits one end twice, then it also does so one step earlier.
  earlier : (i j : ℕ) → path (suc i) ≡ path (suc j) → path i ≡ path j
  earlier i j same =
      sym (back_to (path i) (on_path i)) ∙ ap (λ (e : End). far_of net e.0 (1 - e.1)) same
      ∙ back_to (path j) (on_path j)

  -- and so at the start
  at_start : (i gap : ℕ) → path i ≡ path (gap + i) → path 0 ≡ path gap
  at_start zero gap same = let index : gap + 0 ≡ gap = omega arith in same ∙ ap path index
  at_start (suc i) gap same =
      let index : gap + suc i ≡ suc (gap + i) = omega arith in
      let next : path (gap + suc i) ≡ path (suc (gap + i)) = ap path index in
      at_start i gap (earlier i (gap + i) (same ∙ next))

  node_again : (i j : ℕ) → i < j → (path i).0 ≡ (path j).0 → path 0 ≡ path (j - i)
  node_again i j less same = elim (same_or_turned (path i) (path j) (on_path i) (on_path j) same) [
    | inl h ↦
        let there : path j ≡ path ((j - i) + i) = ap path (omega (arith, less)) in
        at_start i (j - i) (h ∙ there)
    | inr h ↦
        let there : path ((j - i) + i) ≡ path j = ap path (omega (arith, less)) in
        absurd (never_turned (j - i) i (there ∙ h))
  ]

  -- ---- one comes round

  is_back : (k : ℕ) → ((path 0).0 == (path k).0 && ((path 0).1 == (path k).1)) ≡ true → path 0 ≡ path k
  is_back k tested = by_both ((path 0).0 == (path k).0) ((path 0).1 == (path k).1) refl refl tested
    where
      by_both : (a b : Bool) → ((path 0).0 == (path k).0) ≡ a → ((path 0).1 == (path k).1) ≡ b → (a && b) ≡ true
          → path 0 ≡ path k
      by_both true true h l tested = pair_is (eqb-true _ _ h) (eqb-true _ _ l)
      by_both true false h l tested = cc
      by_both false b h l tested = cc

  not_back : (k : ℕ) → ((path 0).0 == (path k).0 && ((path 0).1 == (path k).1)) ≡ false → path 0 ≢ path k
  not_back k none same = true≢false (sym (λ i. eq-eqb (path 0).0 (path k).0 (ap (λ (e : End). e.0) same) i
      && eq-eqb (path 0).1 (path k).1 (ap (λ (e : End). e.1) same) i) ∙ none)

  -- the first time after the start, among the first so many steps, or never so far
  record IsRound (period : ℕ) : Type 0 where
    some : 0 < period
    back : path 0 ≡ path period
    first : (k : ℕ) → 0 < k → k < period → path 0 ≢ path k

  abbrev NotYet : ℕ → Type 0
  NotYet count = (k : ℕ) → 0 < k → k < count → path 0 ≢ path k

  record IsRoundBelow (count : ℕ) : Type 0 where
    period : ℕ
    below : period < count
    round : IsRound period

  more_not_yet : (count : ℕ) → NotYet count → path 0 ≢ path count → NotYet (suc count)
  more_not_yet count none apart k some below = elim (eqb_tells k count) [
    | inl h ↦ λ same. apart (same ∙ ap path h.1)
    | inr h ↦ none k some (omega (arith, below, h.1))
  ]

  look : (count : ℕ) → IsRoundBelow count ⊎ NotYet count
  look zero = inr (λ k some below. absurd (omega (arith, below)))
  look (suc zero) = inr (λ k some below. absurd (omega (arith, some, below)))
  look (suc (suc count)) = elim (look (suc count)) [
    | inl h ↦
        let below : h.period < suc count = h.below in
        inl (record { period = h.period; below = omega (arith, below); round = h.round })
    | inr none ↦ by_cases ((path 0).0 == (path (suc count)).0 && ((path 0).1 == (path (suc count)).1))
        (IsRoundBelow (suc (suc count)) ⊎ NotYet (suc (suc count)))
        (λ yes. inl (record {
          period = suc count;
          below = omega arith;
          round = record { some = omega arith; back = is_back (suc count) yes; first = none };
        }))
        (λ no. inr (more_not_yet (suc count) none (not_back (suc count) no)))
  ]

  -- before one has come round, one passes each node once
  passes_once : (count : ℕ) → NotYet count → (i j : ℕ) → i < j → j < count → (path i).0 ≢ (path j).0
  passes_once count none i j less below same =
      none (j - i) (omega (arith, less)) (omega (arith, less, below)) (node_again i j less same)

  round : IsRoundBelow (n + 1)
  round = elim (look (n + 1)) [
    | inl h ↦ h
    | inr none ↦
        let few : n + 1 ≤ n = few_values (λ k. (path k).0) (n + 1) n (λ k below. (on_path k).node)
        (passes_once (n + 1) none) in
        absurd (omega (arith, few))
  ]

  abbrev period : ℕ
  period = round.period

  is_round : IsRound period
  is_round = round.round

  -- ---- past each node

  abbrev IsPassed : ℕ → Type 0
  IsPassed node = IsValue (λ k. (path k).0) 0 period node

  passed : (k : ℕ) → k < period → (node : ℕ) → node ≡ (path k).0 → IsPassed node
  passed k below node same = record { place = k; after = omega arith; before = omega (arith, below); is = same }

  start_passed : IsPassed setup.home
  start_passed = passed 0 is_round.some setup.home refl

  next_passed : (k : ℕ) → k < period → IsPassed (far_of net (path k).0 (path k).1).0
  next_passed k below = elim (eqb_tells (suc k) period) [
    | inl h ↦ passed 0 is_round.some _ (ap (λ (j : ℕ). (path j).0) h.1 ∙ sym (ap (λ (e : End). e.0) is_round.back))
    | inr h ↦ passed (suc k) (omega (arith, below, h.1)) _ refl
  ]

  behind_passed : (k : ℕ) → k < period → IsPassed (far_of net (path k).0 (1 - (path k).1)).0
  behind_passed (suc k) below =
      passed k (omega (arith, below)) _ (ap (λ (e : End). e.0) (back_to (path k) (on_path k)))
  behind_passed zero below =
      let last : ℕ = period - 1 in
      let some : 0 < period = is_round.some in
      let index : period ≡ suc last = omega (arith, some) in
      let next : path 0 ≡ path (suc last) = is_round.back ∙ ap path index in
      passed last (omega (arith, some)) _ (ap (λ (e : End). (far_of net e.0 (1 - e.1)).0) next
      ∙ ap (λ (e : End). e.0) (back_to (path last) (on_path last)))

  neighbour_passed : (node other : ℕ) → IsPassed node → Leads net node other → IsPassed other
  neighbour_passed node other it leads =
      let before : it.place < 0 + period = it.before in
      let below : it.place < period = omega (arith, before) in
      let port : ℕ = leads.0 in
      let here : node < n = is_node net node port leads.1 in
      let has : port < degree_of net node = leads.1 in
      let two : degree_of net node ≡ 2 = is.two node here in
      let small : port < 2 = omega (arith, has, two) in
      elim (same_or_turned (path it.place) (node, port) (on_path it.place) (record { node = here; port = small })
      (sym it.is)) [
        | inl h ↦ subst IsPassed (ap (λ (e : End). (far_of net e.0 e.1).0) h ∙ leads.2) (next_passed it.place below)
        | inr h ↦ subst IsPassed (ap (λ (e : End). (far_of net e.0 e.1).0) (sym h) ∙ leads.2)
            (behind_passed it.place below)
      ]

  along : (steps other : ℕ) → Path (Leads net) setup.home other steps → IsPassed other
  along zero other ways = subst IsPassed ways start_passed
  along (suc steps) other ways = neighbour_passed ways.0 other (along steps ways.0 ways.1) ways.2

  all_passed : (node : ℕ) → node < n → IsPassed node
  all_passed node below =
      let way : IsPath (Leads net) setup.home node = is.network.connected setup.home node is.home below in
      along way.0 node way.1

  period_is : period ≡ n
  period_is =
      let below : period < n + 1 = round.below in
      let many : n ≤ period = many_values (λ k. (path k).0) period n all_passed in
      omega (arith, below, many)

  -- ---- the way by port 1

  other_way : (steps rest : ℕ) → steps + rest ≡ n → gone_on net (setup.home, 1) steps ≡ turned (path rest)
  other_way zero rest sum =
      let same : rest ≡ period = omega (arith, sum, period_is) in
      let there : path 0 ≡ path rest = is_round.back ∙ ap path (sym same) in
      ap turned there
  other_way (suc steps) rest sum =
      let before : gone_on net (setup.home, 1) steps ≡ turned (path (suc rest)) =
      other_way steps (suc rest) (omega (arith, sum)) in
      ap (onward net) before ∙ ap turned (back_to (path rest) (on_path rest))

  pub is_ring : IsRing (world_of net setup) n (ways_of net setup.home)
  is_ring = record {
    three = labelled.few;
    size = refl;
    home = λ side. refl;
    first = λ side below. refl;
    two = λ side steps below within. is.two (gone_on net (setup.home, side) steps).0 (ends side steps below).node;
    port = λ side steps below within. (ends side steps below).port;
    out = λ side steps below within. rw add-one (out_of (gone_on net (setup.home, side) steps) (ends side steps below));
    back = λ side steps below within. rw add-one
        (back_to (gone_on net (setup.home, side) steps) (ends side steps below));
    around = λ steps rest sum some some_too. ap (λ (e : End). e.0) (other_way steps rest sum);
    apart = λ one other below below_too same. by_order one other below below_too same;
    all = λ node below.
        let it : IsPassed node = all_passed node below in
        let before : it.place < 0 + period = it.before in
        (it.place, omega (arith, before, period_is), sym it.is);
  }
    where
      by_order : (one other : ℕ) → one < n → other < n → (path one).0 ≡ (path other).0 → one ≡ other
      by_order one other below below_too same = elim (eqb_tells one other) [
        | inl h ↦ h.1
        | inr h ↦ by_cases (nat_lt one other) (one ≡ other)
            (λ yes. absurd (passes_once period is_round.first one other (ltb-true one other yes)
            (omega (arith, below_too, period_is)) same))
            (λ no. let not_less : (one < other) → ⊥ = λ b. true≢false (sym (lt-ltb one other b) ∙ no) in
            let less : other < one = omega (arith, not_less, h.1) in
            absurd (passes_once period is_round.first other one less (omega (arith, below, period_is)) (sym same)))
      ]

  pub is_away : IsAway net setup hole
  is_away =
      let it : IsPassed hole = all_passed hole is.within in
      let before : it.place < 0 + period = it.before in
      let below : it.place < n = omega (arith, before, period_is) in
      record {
        one = it.place;
        other = n - it.place;
        search = record {
          ring = is_ring;
          sum = omega (arith, below);
          not_home = positive it.place (λ none. is.not_home (it.is ∙ ap (λ (k : ℕ). (path k).0) none));
          nor_around = omega (arith, below);
          hole = is.holes ∙ ap (λ (k : ℕ). k ∷ []) it.is;
          none_dark = is.dark;
          agents = is.agents;
        };
      }
    where
      positive : (k : ℕ) → k ≢ 0 → 0 < k
      positive k some = omega (arith, some)

pub rings_are_rings : RingsAreRings
rings_are_rings net setup hole is = is_away net setup hole is

-- ---- what it costs at most, wherever the black hole is

trips_add : (a b : ℕ) → round_trips a + round_trips b ≤ round_trips (a + b)
trips_add a zero =
    let same : round_trips (a + 0) ≡ round_trips a = ap round_trips (omega arith) in omega (arith, same)
trips_add a (suc b) =
    let rest : round_trips a + round_trips b ≤ round_trips (a + b) = trips_add a b in
    let index : a + suc b ≡ suc (a + b) = omega arith in
    let same : round_trips (a + suc b) ≡ round_trips (suc (a + b)) = ap round_trips index in
    omega (arith, rest, same)

trips_are : (k : ℕ) → round_trips k ≡ k * (k + 1)
trips_are zero = refl
trips_are (suc k) =
    let rest : round_trips k ≡ k * (k + 1) = trips_are k in
    let square : suc k * (suc k + 1) ≡ k * (k + 1) + (2 * k + 2) = grind arith in
    omega (arith, rest, square)

trips_last : (n : ℕ) → 2 ≤ n → round_trips (n - 2) ≡ (n - 2) * (n - 1)
trips_last n two =
    let next : n - 2 + 1 ≡ n - 1 = omega (arith, two) in
    trips_are (n - 2) ∙ ap (λ (k : ℕ). (n - 2) * k) next

-- what holds of what two agents use, and others do not
pub two_within : (one other : ℕ) (most : ℕ → ℕ) → one ≤ most 0 → other ≤ most 1 → (agent : ℕ)
    → (if agent == 0 then one else (if agent == 1 then other else 0)) ≤ most agent
two_within one other most first second zero = first
two_within one other most first second (suc zero) = second
two_within one other most first second (suc (suc k)) =
    let none : (if suc (suc k) == 0 then one else (if suc (suc k) == 1 then other else 0)) ≡ 0 =
    cond-false _ _ _ (ne_eqb (suc (suc k)) 0 (λ h. omega (arith, h)))
    ∙ cond-false _ _ _ (ne_eqb (suc (suc k)) 1 (λ h. omega (arith, h))) in
    omega (arith, none)

-- what is solved within bounds is solved within greater ones
pub within_more : (trial : Trial) (bounds more : CostBounds) → bounds.moves ≤ more.moves → bounds.lost ≤ more.lost
    → ((agent : ℕ) → bounds.commands agent ≤ more.commands agent) → bounds.turns ≤ more.turns
    → IsSolved trial bounds → IsSolved trial more
within_more trial bounds more moves lost commands turns it = record {
  solves = λ schedule rest. let good = it.solves schedule rest in
      record {
        outcome = good.outcome;
        moves = omega (arith, good.moves, moves);
        lost = omega (arith, good.lost, lost);
      };
  keeps = λ schedule agent. omega (arith, it.keeps schedule agent, commands agent);
  nobody_fails = it.nobody_fails;
  ends = λ schedule. omega (arith, it.ends schedule, turns);
  rests = it.rests;
}

module _ (n one other : ℕ) (sum : one + other ≡ n) (some : 0 < one) (some_too : 0 < other) where
  all_trips : round_trips (one - 1) + round_trips (other - 1) ≤ (n - 2) * (n - 1)
  all_trips =
      let add : round_trips (one - 1) + round_trips (other - 1) ≤ round_trips ((one - 1) + (other - 1)) =
      trips_add (one - 1) (other - 1) in
      let index : (one - 1) + (other - 1) ≡ n - 2 = omega (arith, sum, some, some_too) in
      let at : round_trips ((one - 1) + (other - 1)) ≡ round_trips (n - 2) = ap round_trips index in
      let last : round_trips (n - 2) ≡ (n - 2) * (n - 1) = trips_last n (omega (arith, sum, some, some_too)) in
      omega (arith, add, at, last)

  commands_within : (agent : ℕ) → (shuttle_bounds n one other).commands agent ≤ (n - 2) * (n - 1) + 2 * n
  commands_within = two_within (commands_on n one) (commands_on n other) (λ agent. (n - 2) * (n - 1) + 2 * n)
      (omega (arith, all_trips, sum)) (omega (arith, all_trips, sum))

pub square : (n : ℕ) → 2 ≤ n → (n - 2) * (n - 1) + (n - 1) ≡ (n - 1) * (n - 1)
square n two =
    let next : n - 1 ≡ n - 2 + 1 = omega (arith, two) in
    subst (λ (k : ℕ). (n - 2) * k + k ≡ k * k) (sym next) (one_more (n - 2))
  where
    one_more : (k : ℕ) → k * (k + 1) + (k + 1) ≡ (k + 1) * (k + 1)
    one_more k = grind arith

-- what costs as much as the shuttle, with the black hole at these distances, costs as much as the shuttle at most
pub solved_wherever : (trial : Trial) (n one other : ℕ) → one + other ≡ n → 0 < one → 0 < other
    → IsSolved trial (shuttle_bounds n one other) → IsSolved trial (ring_bounds n)
solved_wherever trial n one other sum some some_too =
    let trips : round_trips (one - 1) + round_trips (other - 1) ≤ (n - 2) * (n - 1) =
    all_trips n one other sum some some_too in
    within_more trial (shuttle_bounds n one other) (ring_bounds n)
    (omega (arith, trips, sum, square n (omega (arith, sum, some, some_too)))) (omega arith)
    (commands_within n one other sum some some_too) (omega (arith, trips, sum))

-- and so does its quota
pub quota_enough : (n one other quota : ℕ) → one + other ≡ n → 0 < one → 0 < other
    → (n - 2) * (n - 1) + 2 * n ≤ quota → (commands_on n one ≤ quota) × (commands_on n other ≤ quota)
quota_enough n one other quota sum some some_too enough =
    let trips : round_trips (one - 1) + round_trips (other - 1) ≤ (n - 2) * (n - 1) =
    all_trips n one other sum some some_too in
    (omega (arith, trips, sum, enough), omega (arith, trips, sum, enough))

pub shuttle_solves_all_rings : ShuttleSolvesAllRings
shuttle_solves_all_rings net setup hole wakeups is room enough =
    let away : IsAway net setup hole = is_away net setup hole is in
    let n : ℕ = nodes_of net in
    let sum : away.one + away.other ≡ n = away.search.sum in
    let some : 0 < away.one = away.search.not_home in
    let some_too : 0 < away.other = away.search.nor_around in
    let both_enough = quota_enough n away.one away.other setup.quota sum some some_too enough in
    solved_wherever (shuttle_trial (world_of net setup) wakeups n) n away.one away.other sum some some_too
    (shuttle_solves (world_of net setup) n away.one away.other wakeups (ways_of net setup.home)
    away.search room both_enough.0 both_enough.1)
