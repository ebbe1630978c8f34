-- Each network of a file has a guide from each home base: the order that grows by ears, and the ways by neighbours that
-- come earlier.
use Rattle.std.proofs.Common.{ℕ, zero, suc, ◌+◌, ◌-◌, ◌<◌, ◌≤◌, ◌≡◌, ◌⊎◌, true, ◌==◌, List, [], ◌∷◌}
use Rattle.std.proofs.Common.{length, refl, sym, ap, ◌∙◌, subst, inl, inr, arith, if◌then◌else◌, nat_lt}
use Rattle.std.proofs.Math.ListN.{get_or}
use Rattle.std.proofs.lemmas.Bool.{true≢false, lt-ltb, ltb-true, eq-eqb, ne_eqb, cond-true, cond-false}
use Rattle.std.proofs.lemmas.Bool.Decides.{eqb_tells}
use Rattle.bhs_net.specs.Links.{End}
use Rattle.bhs_net.specs.Network.{Network, IsNetwork, Leads, nodes_of, degree_of, far_of}
use Rattle.bhs_model.specs.Setups.{network_of}
use Rattle.bhs_model.proofs.StepLemmas.{by_cases}
use Rattle.bhs_protocols_mapped.specs.Guides.{Route, Guide, IsRoute, HasGuide, NetworksHaveGuides}
use Rattle.bhs_protocols_mapped.proofs.Members.{is_in, in_split, in_either, many_in, few_apart, apart_at}
use Rattle.bhs_protocols_mapped.proofs.Ears.{HasEarlier, HasLater, HasAll, has_all}

-- ---- one step more

-- a way that goes one step on, by this port to this node of the side, where the link has this label
abbrev extended : Route → (k port label : ℕ) → Route
extended old k port label = record {
  steps = old.steps + 1;
  place = λ step. if step == old.steps + 1 then k else old.place step;
  ahead = λ step. if step == old.steps then port else old.ahead step;
  behind = λ step. if step == old.steps + 1 then label else old.behind step;
}

abbrev standing : Route
standing = record { steps = 0; place = λ step. 0; ahead = λ step. 0; behind = λ step. 0 }

module _ (net : Network) (node : ℕ → ℕ) where
  abbrev IsWay : ℕ → Route → Type 0
  IsWay k route = IsRoute (network_of net) node k route

  none_needed : IsWay 0 standing
  none_needed = record {
    few = omega arith;
    first = refl;
    last = refl;
    early = λ step below. absurd (omega (arith, below));
    ahead = λ step below. absurd (omega (arith, below));
    behind = λ step below. absurd (omega (arith, below));
    out = λ step below. absurd (omega (arith, below));
    back = λ step below. absurd (omega (arith, below));
  }

  module _ (old : Route) (j k port label : ℕ) (is : IsWay j old) (less : j < k) (has : port < degree_of net (node j))
      (has_too : label < degree_of net (node k)) (far : far_of net (node j) port ≡ (node k, label))
      (near : far_of net (node k) label ≡ (node j, port)) where
    abbrev new : Route
    new = extended old k port label

    place_old : (step : ℕ) → step < old.steps + 1 → new.place step ≡ old.place step
    place_old step below = cond-false _ _ _ (ne_eqb step (old.steps + 1) (λ h. omega (arith, h, below)))

    place_new : (step : ℕ) → step ≡ old.steps + 1 → new.place step ≡ k
    place_new step same = cond-true _ _ _ (eq-eqb step (old.steps + 1) same)

    place_last : (step : ℕ) → step ≡ old.steps → new.place step ≡ j
    place_last step same = place_old step (omega (arith, same)) ∙ ap old.place same ∙ is.last

    behind_old : (step : ℕ) → step < old.steps + 1 → new.behind step ≡ old.behind step
    behind_old step below = cond-false _ _ _ (ne_eqb step (old.steps + 1) (λ h. omega (arith, h, below)))

    behind_new : (step : ℕ) → step ≡ old.steps + 1 → new.behind step ≡ label
    behind_new step same = cond-true _ _ _ (eq-eqb step (old.steps + 1) same)

    ahead_old : (step : ℕ) → step < old.steps → new.ahead step ≡ old.ahead step
    ahead_old step below = cond-false _ _ _ (ne_eqb step old.steps (λ h. omega (arith, h, below)))

    ahead_new : (step : ℕ) → step ≡ old.steps → new.ahead step ≡ port
    ahead_new step same = cond-true _ _ _ (eq-eqb step old.steps same)

    -- an earlier step, or the new one
    earlier_or : (P : ℕ → Type 0) → ((step : ℕ) → step < old.steps → P step)
        → ((step : ℕ) → step ≡ old.steps → P step) → (step : ℕ) → step < old.steps + 1 → P step
    earlier_or P before now step below = elim (eqb_tells step old.steps) [
      | inl h ↦ now step h.1
      | inr h ↦ before step (omega (arith, below, h.1))
    ]

    one_more : IsWay k new
    one_more = record {
      few = let few : old.steps ≤ j = is.few in omega (arith, few, less);
      first = place_old 0 (omega arith) ∙ is.first;
      last = place_new (old.steps + 1) refl;
      early = earlier_or (λ (step : ℕ). new.place step < k)
          (λ step below. let early : old.place step < j = is.early step below in
          let same : new.place step ≡ old.place step = place_old step (omega (arith, below)) in
          omega (arith, early, less, same))
          (λ step same. let at : new.place step ≡ j = place_last step same in omega (arith, at, less));
      ahead = earlier_or (λ (step : ℕ). new.ahead step < degree_of net (node (new.place step)))
          (λ step below. subst (λ (e : ℕ × ℕ). e.1 < degree_of net (node e.0))
          (sym (pair (place_old step (omega (arith, below))) (ahead_old step below))) (is.ahead step below))
          (λ step same. subst (λ (e : ℕ × ℕ). e.1 < degree_of net (node e.0))
          (sym (pair (place_last step same) (ahead_new step same))) has);
      behind = earlier_or (λ (step : ℕ). new.behind (step + 1) < degree_of net (node (new.place (step + 1))))
          (λ step below. subst (λ (e : ℕ × ℕ). e.1 < degree_of net (node e.0))
          (sym (pair (place_old (step + 1) (omega (arith, below))) (behind_old (step + 1) (omega (arith, below)))))
          (is.behind step below))
          (λ step same. subst (λ (e : ℕ × ℕ). e.1 < degree_of net (node e.0))
          (sym (pair (place_new (step + 1) (omega (arith, same))) (behind_new (step + 1) (omega (arith, same)))))
          has_too);
      out = earlier_or (λ (step : ℕ). far_of net (node (new.place step)) (new.ahead step)
          ≡ (node (new.place (step + 1)), new.behind (step + 1)))
          (λ step below. links (place_old step (omega (arith, below))) (ahead_old step below)
          (place_old (step + 1) (omega (arith, below))) (behind_old (step + 1) (omega (arith, below)))
          (is.out step below))
          (λ step same. links (place_last step same) (ahead_new step same)
          (place_new (step + 1) (omega (arith, same))) (behind_new (step + 1) (omega (arith, same))) far);
      back = earlier_or (λ (step : ℕ). far_of net (node (new.place (step + 1))) (new.behind (step + 1))
          ≡ (node (new.place step), new.ahead step))
          (λ step below. links (place_old (step + 1) (omega (arith, below)))
          (behind_old (step + 1) (omega (arith, below))) (place_old step (omega (arith, below)))
          (ahead_old step below) (is.back step below))
          (λ step same. links (place_new (step + 1) (omega (arith, same)))
          (behind_new (step + 1) (omega (arith, same))) (place_last step same) (ahead_new step same) near);
    }
      where
        pair : {a b c d : ℕ} → a ≡ c → b ≡ d → ◌≡◌ {A = ℕ × ℕ} (a, b) (c, d)
        pair h l i = (h i, l i)

        links : {a b c d e f g h : ℕ} → a ≡ e → b ≡ f → c ≡ g → d ≡ h → far_of net (node e) f ≡ (node g, h)
            → far_of net (node a) b ≡ (node c, d)
        links ae bf cg dh far =
            (λ i. far_of net (node (ae i)) (bf i)) ∙ far ∙ (λ i. (node (sym cg i), sym dh i))

-- ---- from the order

-- the index of a member in a list
place_of : (q : ℕ) (qs : List ℕ) → is_in q qs ≡ true → (j : ℕ) × (j < length qs) × (get_or qs j 0 ≡ q)
place_of q [] any = absurd (true≢false (sym any))
place_of q (y ∷ ys) any = elim (in_split q y ys any) [
  | inl h ↦ (0, omega arith, sym h)
  | inr h ↦
      let rest = place_of q ys h in
      let below : rest.0 < length ys = rest.1 in
      (suc rest.0, omega (arith, below), rest.2)
]

module _ (net : Network) (is : IsNetwork net) (home : ℕ) where
  earlier_at : (S L : List ℕ) (k : ℕ) → HasEarlier net is S L → k < length L → (u : ℕ) × Leads net u (get_or L k 0)
      × ((is_in u S ≡ true) ⊎ ((j : ℕ) × (j < k) × (get_or L j 0 ≡ u)))
  earlier_at S [] k has below = absurd (omega (arith, below))
  earlier_at S (v ∷ vs) zero has below = (has.0.0, has.0.2, inl has.0.1)
  earlier_at S (v ∷ vs) (suc k) has below =
      let it = earlier_at (v ∷ S) vs k has.1 (omega (arith, below)) in (
        it.0,
        it.1,
        elim it.2 [
          | inl h ↦ elim (in_split it.0 v S h) [
            | inl e ↦ inr (0, omega arith, sym e)
            | inr e ↦ inl e
          ]
          | inr h ↦ let less : h.0 < k = h.1 in inr (suc h.0, omega (arith, less), h.2)
        ],
      )

  later_at : (ends L : List ℕ) (k : ℕ) → HasLater net is ends L → k < length L → (u : ℕ) × Leads net u (get_or L k 0)
      × ((is_in u ends ≡ true) ⊎ ((j : ℕ) × (k < j) × (j < length L) × (get_or L j 0 ≡ u)))
  later_at ends [] k has below = absurd (omega (arith, below))
  later_at ends (v ∷ vs) zero has below = (
    has.0.0,
    has.0.2,
    elim (in_either has.0.0 vs ends has.0.1) [
      | inl h ↦
          let it = place_of has.0.0 vs h in
          let within : it.0 < length vs = it.1 in
          inr (suc it.0, omega arith, omega (arith, within), it.2)
      | inr h ↦ inl h
    ],
  )
  later_at ends (v ∷ vs) (suc k) has below =
      let it = later_at ends vs k has.1 (omega (arith, below)) in (
        it.0,
        it.1,
        elim it.2 [
          | inl h ↦ inl h
          | inr h ↦
              let more : k < h.0 = h.1 in
              let within : h.0 < length vs = h.2 in
              inr (suc h.0, omega (arith, more), omega (arith, within), h.3)
        ],
      )

  module _ (here : home < nodes_of net) where
    abbrev all : HasAll net is home
    all = has_all net is home here

    abbrev n : ℕ
    n = nodes_of net

    abbrev others : List ℕ
    others = all.nodes

    abbrev nodes : List ℕ
    nodes = home ∷ others

    within : (q : ℕ) → is_in q nodes ≡ true → q < n
    within q any = elim (in_split q home others any) [
      | inl h ↦ subst (λ (k : ℕ). k < n) (sym h) here
      | inr h ↦ all.order.within q h
    ]

    long : length nodes ≡ n
    long =
        let few : length nodes ≤ n = few_apart nodes n (all.order.away, all.order.apart) within in
        let many : n ≤ length nodes = many_in nodes n all.all in
        omega (arith, few, many)

    -- the nodes of a side
    abbrev node : (side place : ℕ) → ℕ
    node zero place = get_or nodes place 0
    node (suc side) zero = home
    node (suc side) (suc place) = get_or nodes (n - suc place) 0

    from_end : (place : ℕ) → 0 < place → node 1 place ≡ get_or nodes (n - place) 0
    from_end zero some = absurd (omega (arith, some))
    from_end (suc place) some = refl

    -- a node of the side that comes earlier and leads to this one
    record Before (side k : ℕ) : Type 0 where
      place : ℕ
      less : place < k
      leads : Leads net (node side place) (node side k)

    only_home : (u : ℕ) → is_in u (home ∷ []) ≡ true → u ≡ home
    only_home u any = elim (in_split u home [] any) [
      | inl h ↦ h
      | inr h ↦ absurd (true≢false (sym h))
    ]

    before : (side k : ℕ) → side < 2 → suc k < n → Before side (suc k)
    before zero k small below =
        let it = earlier_at (home ∷ []) others k all.order.earlier (omega (arith, below, long)) in
        elim it.2 [
          | inl h ↦ record {
            place = 0;
            less = omega arith;
            leads = subst (λ (u : ℕ). Leads net u (get_or others k 0)) (only_home it.0 h) it.1;
          }
          | inr h ↦
              let less : h.0 < k = h.1 in
              record {
                place = suc h.0;
                less = omega (arith, less);
                leads = subst (λ (u : ℕ). Leads net u (get_or others k 0)) (sym h.2) it.1;
              }
        ]
    before (suc zero) k small below =
        let i : ℕ = n - suc (suc k) in
        let index : n - suc k ≡ suc i = omega (arith, below) in
        let it = later_at (home ∷ []) others i all.order.later (omega (arith, below, long)) in
        let here_is : get_or others i 0 ≡ node 1 (suc k) = ap (λ (p : ℕ). get_or nodes p 0) (sym index) in
        elim it.2 [
          | inl h ↦ record {
            place = 0;
            less = omega arith;
            leads = subst (λ (u : ℕ). Leads net u (node 1 (suc k))) (only_home it.0 h)
                (subst (λ (v : ℕ). Leads net it.0 v) here_is it.1);
          }
          | inr h ↦
              let more : i < h.0 = h.1 in
              let inside : h.0 < length others = h.2 in
              let there : n - (n - suc h.0) ≡ suc h.0 = omega (arith, inside, long) in
              record {
                place = n - suc h.0;
                less = omega (arith, more, below, inside, long);
                leads = subst (λ (u : ℕ). Leads net u (node 1 (suc k)))
                    (sym (from_end (n - suc h.0) (omega (arith, inside, long))
                    ∙ ap (λ (p : ℕ). get_or nodes p 0) there ∙ h.3))
                    (subst (λ (v : ℕ). Leads net it.0 v) here_is it.1);
              }
        ]
    before (suc (suc side)) k small below = absurd (omega (arith, small))

    -- ---- the ways

    routed : (side bound k : ℕ) → side < 2 → bound ≤ n → k < bound
        → (route : Route) × IsRoute (network_of net) (node side) k route
    routed side zero k small few below = absurd (omega (arith, below))
    routed side (suc bound) zero small few below = (standing, none_needed net (node side))
    routed side (suc bound) (suc k) small few below =
        let it : Before side (suc k) = before side k small (omega (arith, few, below)) in
        let less : it.place < suc k = it.less in
        let rest = routed side bound it.place small (omega (arith, few)) (omega (arith, below, less)) in
        let port : ℕ = it.leads.0 in
        let start : ℕ = node side it.place in
        let target : ℕ = node side (suc k) in
        let far : End = far_of net start port in
        let same : far.0 ≡ target = it.leads.2 in
        let has : far.1 < degree_of net far.0 = is.labelled.within start port it.leads.1 in
        let back : far_of net far.0 far.1 ≡ (start, port) = is.labelled.back start port it.leads.1 in (
          extended rest.0 (suc k) port far.1,
          one_more net (node side) rest.0 it.place (suc k) port far.1 rest.1 less it.leads.1
              (subst (λ (v : ℕ). far.1 < degree_of net v) same has) (λ i. (same i, far.1))
              (subst (λ (v : ℕ). far_of net v far.1 ≡ (start, port)) same back),
        )

    -- the way to a node of a side, and a way to nowhere for other numbers
    record Way (side k : ℕ) : Type 0 where
      route : Route
      is_route : side < 2 → k < n → IsRoute (network_of net) (node side) k route

    way : (side k : ℕ) → Way side k
    way side k = by_cases (nat_lt side 2) (Way side k)
        (λ small. by_cases (nat_lt k n) (Way side k)
        (λ below. let it = routed side n k (ltb-true side 2 small) (omega arith) (ltb-true k n below) in
        record { route = it.0; is_route = λ s b. it.1 })
        (λ beyond. record {
          route = standing;
          is_route = λ s b. absurd (true≢false (sym (lt-ltb k n b) ∙ beyond));
        }))
        (λ great. record {
          route = standing;
          is_route = λ s b. absurd (true≢false (sym (lt-ltb side 2 s) ∙ great));
        })

    abbrev guide : Guide
    guide = record { node = node; route = λ side k. (way side k).route }

    starts : (side : ℕ) → node side 0 ≡ home
    starts zero = refl
    starts (suc side) = refl

    apart : (one other : ℕ) → one < n → other < n → get_or nodes one 0 ≡ get_or nodes other 0 → one ≡ other
    apart one other below below_too same = elim (eqb_tells one other) [
      | inl h ↦ h.1
      | inr h ↦ by_cases (nat_lt one other) (one ≡ other)
          (λ yes. absurd (twice one other (ltb-true one other yes) below_too same))
          (λ none. let not_less : (one < other) → ⊥ = λ b. true≢false (sym (lt-ltb one other b) ∙ none) in
          absurd (twice other one (omega (arith, not_less, h.1)) below (sym same)))
    ]
      where
        twice : (i j : ℕ) → i < j → j < n → get_or nodes i 0 ≡ get_or nodes j 0 → ⊥
        twice i j less last same = true≢false (sym (eq-eqb (get_or nodes i 0) (get_or nodes j 0) same)
            ∙ apart_at nodes i j 0 (all.order.away, all.order.apart) less (omega (arith, last, long)))

    pub has_guide : HasGuide net home
    has_guide = record {
      guide = guide;
      guides = record {
        three = is.labelled.few;
        size = refl;
        start = starts;
        around = λ place rest sum some some_too.
            from_end place some ∙ ap (λ (p : ℕ). get_or nodes p 0) (omega (arith, sum));
        apart = apart;
        all = λ q below.
            let it = place_of q nodes (all.all q below) in
            let inside : it.0 < length nodes = it.1 in
            (it.0, omega (arith, inside, long), it.2);
        routes = λ side k small below. (way side k).is_route small below;
      };
    }

pub networks_have_guides : NetworksHaveGuides
networks_have_guides net home is here = has_guide net is home here
