-- Agents that draw a chart: how it stays right when the state of a port changes, and who holds ports then.
use Rattle.std.proofs.Common.{ℕ, ◌+◌, ◌<◌, ◌≤◌, ◌≡◌, ◌⊎◌, Bool, ◌==◌, Option, Some, None, List, []}
use Rattle.std.proofs.Common.{length, if◌then◌else◌, unwrap_or, refl, sym, ap, ap₂, ◌∙◌, subst, inl, inr, arith}
use Rattle.std.specs.Prelude.{◌≢◌, sum_by}
use Rattle.std.proofs.lemmas.Bool.{cases_eq, cond-true, cond-false, eq-eqb, ne_eqb}
use Rattle.std.proofs.lemmas.Bool.Decides.{eqb_tells}
use Rattle.bhs_model.specs.Runs.{changed}
use Rattle.bhs_model.proofs.StepLemmas.{changed_other}
use Rattle.bhs_protocols_charts.specs.Charts.{Chart, free, claimed, done, row_at, state_at, with_state, name_of}
use Rattle.bhs_protocols_charts.proofs.ChartLists.{ports_at, state_length, state_father, state_port, state_ports}
use Rattle.bhs_protocols_charts.proofs.ChartLists.{state_same, state_other, state_sum}
use Rattle.bhs_protocols_charts.proofs.ChartPaths.{HasPlaces}
use Rattle.bhs_protocols_charts.proofs.ChartState.{Game, HasName, IsDrawn, IsPast, Holds, Holder, AreHeld, LeadsToRow}
use Rattle.bhs_protocols_charts.proofs.ChartState.{taken, taken_by, changes, n as size, degree, far, graph}
use Rattle.bhs_protocols_charts.proofs.ChartPlaces.{first_places}

-- the ends are the same, or differ
either_end : (i p row port : ℕ) → ((i ≡ row) × (p ≡ port)) ⊎ ((i ≡ row) → (p ≡ port) → ⊥)
either_end i p row port = elim (cases_eq i row) [
  | inl same ↦ elim (cases_eq p port) [
    | inl too ↦ inl (same, too)
    | inr apart ↦ inr (λ it is. apart is)
  ]
  | inr apart ↦ inr (λ it is. apart it)
]

same_end : (one other : ℕ × ℕ) → Some one ≡ Some other → one ≡ other
same_end one other same = ap (λ (it : Option (ℕ × ℕ)). unwrap_or it other) same

module _ (game : Game) {chart : Chart} {place : ℕ → ℕ} {shown : ℕ → List ℕ} {reached : ℕ → Bool}
    (drawn : IsDrawn game chart place shown reached) where
  open game use {net, terms, tells, home, hole, can}

  -- no other place is the home base
  pub place_apart : (i : ℕ) → 0 < i → i < length chart → place i ≢ home
  place_apart i later lt same =
      let first : i ≡ 0 = drawn.apart.apart i 0 lt drawn.some (same ∙ sym drawn.places.start) in omega arith

  -- ---- what stays if rows keep their places, and there may be more

  module _ (other_chart : Chart) (other_place : ℕ → ℕ) (longer : length chart ≤ length other_chart)
      (stays : (i : ℕ) → i < length chart → other_place i ≡ place i) where
    pub leads_kept : (node : ℕ) → LeadsToRow game chart place node → LeadsToRow game other_chart other_place node
    leads_kept node to = record {
      row = to.row;
      within = omega (arith, to.within);
      is = to.is ∙ sym (stays to.row to.within);
    }

    pub holds_kept : (end : ℕ × ℕ) → state_at other_chart end.0 end.1 ≡ state_at chart end.0 end.1
        → Holds game chart place end → Holds game other_chart other_place end
    holds_kept end same was = record {
      within = omega (arith, was.within);
      has = subst (λ (node : ℕ). end.1 < degree game node) (sym (stays end.0 was.within)) was.has;
      is = same ∙ was.is;
    }

    pub names_kept : (showing : ℕ → List ℕ) → ((node : ℕ) → node ≢ home → showing node ≡ shown node) → (node : ℕ)
        → node ≢ home → (showing node ≡ []) ⊎ HasName game other_chart other_place showing reached node
    names_kept showing shows node other = elim (drawn.names node other) [
      | inl h ↦ inl (shows node other ∙ h)
      | inr h ↦ inr (record {
        father = h.father;
        port = h.port;
        within = omega (arith, h.within);
        has = subst (λ (k : ℕ). h.port < degree game k) (sym (stays h.father h.within)) h.has;
        leads = ap (λ (k : ℕ). (far game k h.port).0) (stays h.father h.within) ∙ h.leads;
        shows = shows node other ∙ h.shows;
        seen = h.seen;
        safe = h.safe;
      })
    ]

  -- the whiteboard of the home base shows another text
  pub text_drawn : (text : List ℕ) → IsDrawn game chart place (changed shown home text) reached
  text_drawn text = record {
    some = drawn.some;
    places = drawn.places;
    apart = drawn.apart;
    ports_are = drawn.ports_are;
    named = λ i later lt. shows (place i) (place_apart i later lt) ∙ drawn.named i later lt;
    names = names_kept chart place (omega arith) (λ i lt. refl) (changed shown home text) shows;
    back = drawn.back;
    states = drawn.states;
  }
    where
      shows : (node : ℕ) → node ≢ home → changed shown home text node ≡ shown node
      shows node other = changed_other shown home node text (ne_eqb node home other)

  -- ---- a port has another state

  module _ (row port state : ℕ) (within : row < length chart) (has : port < degree game (place row)) where
    abbrev chart_so : Chart
    chart_so = with_state chart row port state

    pub has_port : port < ports_at chart row
    has_port = subst (λ (count : ℕ). port < count) (sym (drawn.ports_are row within)) has

    pub as_long : length (with_state chart row port state) ≡ length chart
    as_long = state_length chart row port state within has_port

    father_is : (i : ℕ) → (row_at chart_so i).father ≡ (row_at chart i).father
    father_is = state_father chart row port state within has_port

    port_is : (i : ℕ) → (row_at chart_so i).port ≡ (row_at chart i).port
    port_is = state_port chart row port state within has_port

    ports_so : (i : ℕ) → ports_at chart_so i ≡ ports_at chart i
    ports_so = state_ports chart row port state within has_port

    state_here : (i p : ℕ) → i ≡ row → p ≡ port → state_at chart_so i p ≡ state
    state_here i p same too = ap₂ (λ (j q : ℕ). state_at chart_so j q) same too
        ∙ state_same chart row port state within has_port

    state_else : (i p : ℕ) → ((i ≡ row) → (p ≡ port) → ⊥) → state_at chart_so i p ≡ state_at chart i p
    state_else = state_other chart row port state within has_port

    low : (i : ℕ) → i < length chart_so → i < length chart
    low i lt = omega (arith, as_long)

    state_places : HasPlaces (graph game) home hole chart_so place
    state_places = record {
      start = drawn.places.start;
      early = λ i later lt. subst (λ (k : ℕ). k < i) (sym (father_is i)) (drawn.places.early i later (low i lt));
      port = λ i later lt. subst (λ (k : ℕ). k < degree game (place (row_at chart_so i).father)) (sym (port_is i))
          (subst (λ (k : ℕ). (row_at chart i).port < degree game (place k)) (sym (father_is i))
          (drawn.places.port i later (low i lt)));
      there = λ i later lt. ap₂ (λ (f p : ℕ). (far game (place f) p).0) (father_is i) (port_is i)
          ∙ drawn.places.there i later (low i lt);
      safe = λ i lt. drawn.places.safe i (low i lt);
    }

    leads_so : (node : ℕ) → LeadsToRow game chart place node → LeadsToRow game chart_so place node
    leads_so = leads_kept chart_so place (omega (arith, as_long)) (λ i lt. refl)

    pub state_drawn : state ≤ done → (state ≡ done → LeadsToRow game chart place (far game (place row) port).0)
        → IsDrawn game (with_state chart row port state) place shown reached
    state_drawn most leads = record {
      some = omega (arith, drawn.some, as_long);
      places = state_places;
      apart = first_places (size game) hole place (length chart) (length chart_so) drawn.apart (omega (arith, as_long));
      ports_are = λ i lt. ports_so i ∙ drawn.ports_are i (low i lt);
      named = λ i later lt. drawn.named i later (low i lt) ∙ sym (ap₂ name_of (father_is i) (port_is i));
      names = names_kept chart_so place (omega (arith, as_long)) (λ i lt. refl) shown (λ node other. refl);
      back = λ i p lt it is. elim (either_end i p row port) [
        | inl h ↦ subst (λ (node : ℕ). LeadsToRow game chart_so place node)
            (sym (ap₂ (λ (j q : ℕ). (far game (place j) q).0) h.0 h.1))
            (leads_so (far game (place row) port).0 (leads (sym (state_here i p h.0 h.1) ∙ is)))
        | inr h ↦ leads_so (far game (place i) p).0 (drawn.back i p (low i lt) it (sym (state_else i p h) ∙ is))
      ];
      states = λ i p lt it. elim (either_end i p row port) [
        | inl h ↦ subst (λ (s : ℕ). s ≤ done) (sym (state_here i p h.0 h.1)) most
        | inr h ↦ subst (λ (s : ℕ). s ≤ done) (sym (state_else i p h)) (drawn.states i p (low i lt) it)
      ];
    }

    pub state_past : IsPast game chart (with_state chart row port state)
    state_past = record {
      shorter = omega (arith, as_long);
      father = λ i lt. sym (father_is i);
      port = λ i lt. sym (port_is i);
      ports_are = λ i lt. sym (ports_so i);
    }

    -- another port is held as before
    held_so : (end : ℕ × ℕ) → ((end.0 ≡ row) → (end.1 ≡ port) → ⊥) → Holds game chart place end
        → Holds game chart_so place end
    held_so end apart =
        holds_kept chart_so place (omega (arith, as_long)) (λ i lt. refl) end (state_else end.0 end.1 apart)

    -- The sum over all ports changes by this state.
    state_sums : (f : ℕ → ℕ) → sum_by (λ it. sum_by f it.states) chart_so + f (state_at chart row port)
        ≡ sum_by (λ it. sum_by f it.states) chart + f state
    state_sums = state_sum chart row port state within has_port

  -- ---- who holds ports

  module _ (row port agent : ℕ) (holder : ℕ → Option (ℕ × ℕ)) (within : row < length chart)
      (has : port < degree game (place row)) (mine : agent < terms.agents) where
    module _ (is_free : state_at chart row port ≡ free) (none : holder agent ≡ None)
        (are : AreHeld game chart place holder) where
      abbrev claimers : ℕ → Option (ℕ × ℕ)
      claimers k = if k == agent then Some (row, port) else holder k

      -- a port that is held is another one
      not_free : (end : ℕ × ℕ) → Holds game chart place end → (end.0 ≡ row) → (end.1 ≡ port) → ⊥
      not_free end was same too =
          let here : state_at chart end.0 end.1 ≡ state_at chart row port =
          ap₂ (λ (j q : ℕ). state_at chart j q) same too in
          let held : state_at chart end.0 end.1 ≡ claimed = was.is in
          omega arith

      -- it is the claimer, or holds another port, as before
      claims : (k : ℕ) → k < terms.agents → (end : ℕ × ℕ) → claimers k ≡ Some end
          → ((k ≡ agent) × ((row, port) ≡ end)) ⊎ ((holder k ≡ Some end) × ((end.0 ≡ row) → (end.1 ≡ port) → ⊥))
      claims k lt end is = elim (eqb_tells k agent) [
        | inl h ↦ let same : Some (row, port) ≡ Some end =
            sym (cond-true (k == agent) (Some (row, port)) (holder k) h.0) ∙ is in
            inl (h.1, same_end (row, port) end same)
        | inr h ↦ let was : holder k ≡ Some end =
            sym (cond-false (k == agent) (Some (row, port)) (holder k) h.0) ∙ is in
            inr (was, not_free end (are.holds k lt end was))
      ]

      claim_one : (k j : ℕ) → k < terms.agents → j < terms.agents → (end : ℕ × ℕ) → claimers k ≡ Some end
          → claimers j ≡ Some end → k ≡ j
      claim_one k j lt low end is too = elim (claims k lt end is) [
        | inl h ↦ elim (claims j low end too) [
          | inl it ↦ h.0 ∙ sym it.0
          | inr it ↦ absurd (it.1 (λ x. (sym h.1 x).0) (λ x. (sym h.1 x).1))
        ]
        | inr h ↦ elim (claims j low end too) [
          | inl it ↦ absurd (h.1 (λ x. (sym it.1 x).0) (λ x. (sym it.1 x).1))
          | inr it ↦ are.one k j lt low end h.0 it.0
        ]
      ]

      claim_some : (i p : ℕ) → i < length (with_state chart row port claimed) → p < degree game (place i)
          → state_at (with_state chart row port claimed) i p ≡ claimed → Holder game claimers (i, p)
      claim_some i p lt it is = elim (either_end i p row port) [
        | inl h ↦ record {
          agent = agent;
          within = mine;
          is = cond-true (agent == agent) (Some (row, port)) (holder agent) (eq-eqb agent agent refl)
              ∙ (λ x. Some (sym h.0 x, sym h.1 x));
        }
        | inr h ↦ let was : Holder game holder (i, p) = are.some i p (low row port claimed within has i lt) it
            (sym (state_else row port claimed within has i p h) ∙ is) in
            record {
              agent = was.agent;
              within = was.within;
              is = cond-false (was.agent == agent) (Some (row, port)) (holder was.agent)
                  (ne_eqb was.agent agent (λ same.
                  let both : Some (i, p) ≡ None = sym was.is ∙ (ap holder same ∙ none) in cc))
                  ∙ was.is;
            }
      ]

      -- a free port is claimed
      pub claim_held : AreHeld game (with_state chart row port claimed) place
          (λ k. if k == agent then Some (row, port) else holder k)
      claim_held = record {
        holds = λ k lt end is. elim (claims k lt end is) [
          | inl h ↦ subst (λ (it : ℕ × ℕ). Holds game (with_state chart row port claimed) place it) h.1 (record {
            within = omega (arith, as_long row port claimed within has);
            has = has;
            is = state_here row port claimed within has row port refl refl;
          })
          | inr h ↦ held_so row port claimed within has end h.1 (are.holds k lt end h.0)
        ];
        one = claim_one;
        some = claim_some;
      }

    module _ (mine_is : holder agent ≡ Some (row, port)) (are : AreHeld game chart place holder) where
      abbrev reporters : ℕ → Option (ℕ × ℕ)
      reporters k = if k == agent then None else holder k

      -- who still holds a port holds another one
      reports : (k : ℕ) → k < terms.agents → (end : ℕ × ℕ) → reporters k ≡ Some end
          → (holder k ≡ Some end) × ((end.0 ≡ row) → (end.1 ≡ port) → ⊥)
      reports k lt end is = elim (eqb_tells k agent) [
        | inl h ↦ let never : None ≡ Some end = sym (cond-true (k == agent) None (holder k) h.0) ∙ is in absurd (cc)
        | inr h ↦ let was : holder k ≡ Some end = sym (cond-false (k == agent) None (holder k) h.0) ∙ is in
            (was, (λ same too. h.1 (are.one k agent lt mine (row, port) (was ∙ (λ x. Some (same x, too x))) mine_is)))
      ]

      report_some : (i p : ℕ) → i < length (with_state chart row port done) → p < degree game (place i)
          → state_at (with_state chart row port done) i p ≡ claimed → Holder game reporters (i, p)
      report_some i p lt it is = elim (either_end i p row port) [
        | inl h ↦ absurd (omega (arith, state_here row port done within has i p h.0 h.1))
        | inr h ↦ let was : Holder game holder (i, p) = are.some i p (low row port done within has i lt) it
            (sym (state_else row port done within has i p h) ∙ is) in
            record {
              agent = was.agent;
              within = was.within;
              is = cond-false (was.agent == agent) None (holder was.agent)
                  (ne_eqb was.agent agent (λ same.
                  let both : (i, p) ≡ (row, port) =
                  same_end (i, p) (row, port) (sym was.is ∙ (ap holder same ∙ mine_is)) in
                  h (λ x. (both x).0) (λ x. (both x).1)))
                  ∙ was.is;
            }
      ]

      -- its holder has come back from a port
      pub report_held : AreHeld game (with_state chart row port done) place (λ k. if k == agent then None else holder k)
      report_held = record {
        holds = λ k lt end is. let was = reports k lt end is in
            held_so row port done within has end was.1 (are.holds k lt end was.0);
        one = λ k j lt below end is too. are.one k j lt below end (reports k lt end is).0 (reports j below end too).0;
        some = report_some;
      }

  pub claim_taken : (row port : ℕ) → row < length chart → port < degree game (place row)
      → state_at chart row port ≡ free
      → (taken (with_state chart row port claimed) ≡ taken chart + 1)
      × (changes (with_state chart row port claimed) ≡ changes chart + 1)
  claim_taken row port within has is_free = (
    omega (arith, state_sums row port claimed within has taken_by, ap taken_by is_free),
    omega (arith, state_sums row port claimed within has (λ state. state), is_free),
  )

  pub report_taken : (row port : ℕ) → row < length chart → port < degree game (place row)
      → state_at chart row port ≡ claimed
      → (taken (with_state chart row port done) ≡ taken chart)
      × (changes (with_state chart row port done) ≡ changes chart + 1)
  report_taken row port within has is_claimed = (
    omega (arith, state_sums row port done within has taken_by, ap taken_by is_claimed),
    omega (arith, state_sums row port done within has (λ state. state), is_claimed),
  )
