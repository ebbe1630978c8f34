-- Agents that draw a chart: how it grows by what an agent has found behind a port, and that it fits on a whiteboard.
use Rattle.std.proofs.Common.{ℕ, suc, ◌+◌, ◌-◌, ◌*◌, ◌<◌, ◌≤◌, ◌≡◌, Bool, true, false, Option, List, [], ◌∷◌}
use Rattle.std.proofs.Common.{◌++◌, length, slice_set, slice_index_or, refl, sym, ap, ap₂, ◌∙◌, subst, inl, inr, arith}
use Rattle.std.specs.Prelude.{◌≢◌, sum_by}
use Rattle.std.proofs.lemmas.Bool.{cases_Bool, cond-true, cond-false}
use Rattle.std.proofs.lemmas.List.{set-append_left}
use Rattle.bhs_net.proofs.Places.{below_or_at}
use Rattle.bhs_net.proofs.Listed.{HasPort-node}
use Rattle.bhs_protocols_charts.specs.Charts.{Chart, ChartRow, free, claimed, done, new_row, row_at, state_at}
use Rattle.bhs_protocols_charts.specs.Charts.{with_state, reported, has_row, name_of, text_of, ends_of}
use Rattle.bhs_protocols_charts.proofs.Totals.{total, total_same, sum_is_total}
use Rattle.bhs_protocols_charts.proofs.HoleEnds.{ArePlaces, places_few, places_have, beside_is}
use Rattle.bhs_protocols_charts.proofs.ChartLists.{ports_at, state_length, more_length, more_early, more_last}
use Rattle.bhs_protocols_charts.proofs.ChartLists.{more_sum, new_states, new_ports, new_sum, has_none, has_some}
use Rattle.bhs_protocols_charts.proofs.ChartTexts.{text_length, same_names}
use Rattle.bhs_protocols_charts.proofs.ChartPaths.{HasPlaces}
use Rattle.bhs_protocols_charts.proofs.ChartState.{Game, IsDrawn, IsPast, Holder, AreHeld, LeadsToRow, Found}
use Rattle.bhs_protocols_charts.proofs.ChartState.{taken, taken_by, changes, n as size, ports, degree, far, graph}
use Rattle.bhs_protocols_charts.proofs.ChartPast.{past_itself, past_state}
use Rattle.bhs_protocols_charts.proofs.ChartPlaces.{each_below, first_places, with_node, with_early, with_last}
use Rattle.bhs_protocols_charts.proofs.ChartPlaces.{with_places}
use Rattle.bhs_protocols_charts.proofs.ChartStates.{leads_kept, holds_kept, names_kept, has_port}

module _ (game : Game) {chart : Chart} {place : ℕ → ℕ} {shown : ℕ → List ℕ} {reached : ℕ → Bool}
    (drawn : IsDrawn game chart place shown reached) where
  open game use {net, terms, tells, home, hole, can}

  -- ---- the chart together with what an agent has found behind a port and not yet reported

  -- The chart has a row for the node behind the port; a new row is the last one.
  pub record HasGrown (row port : ℕ) (found : Option ChartRow) (holder : ℕ → Option (ℕ × ℕ)) : Type 0 where
    pub chart_then : Chart
    pub place_then : ℕ → ℕ
    pub drawn_then : IsDrawn game chart_then place_then shown reached
    pub held : AreHeld game chart_then place_then holder
    pub leads : LeadsToRow game chart_then place_then (far game (place_then row) port).0
    pub past : IsPast game chart chart_then
    pub same_place : (i : ℕ) → i < length chart → place_then i ≡ place i
    pub same_states : (i p : ℕ) → i < length chart → state_at chart_then i p ≡ state_at chart i p
    pub same_taken : taken chart_then ≡ taken chart
    pub same_changes : changes chart_then ≡ changes chart
    pub is : reported chart row port found ≡ with_state chart_then row port done

  -- the node with this name
  record IsNamed (node father port : ℕ) : Type 0 where
    pub within : father < length chart
    pub has : port < degree game (place father)
    pub leads : (far game (place father) port).0 ≡ node
    pub safe : node ≢ hole
    pub node_within : node < size game

  is_named : (node father port : ℕ) → node ≢ home → shown node ≡ name_of father port → IsNamed node father port
  is_named node father port elsewhere shows = elim (drawn.names node elsewhere) [
    | inl h ↦ let never : [] ≡ name_of father port = sym h ∙ shows in absurd (cc)
    | inr h ↦
        let same = same_names h.father h.port father port (sym h.shows ∙ shows) in
        let end : ℕ × ℕ = far game (place h.father) h.port in
        subst (λ (f : ℕ). IsNamed node f port) same.0 (subst (λ (p : ℕ). IsNamed node h.father p) same.1 (record {
          within = h.within;
          has = h.has;
          leads = h.leads;
          safe = h.safe;
          node_within = subst (λ (k : ℕ). k < size game) h.leads
              (HasPort-node net end.0 end.1 (can.network.labelled.within (place h.father) h.port h.has));
        }))
  ]

  -- If no row of an earlier chart has the name, then the node is none of that chart's places.
  no_place : (old : Chart) → IsPast game old chart → (node father port count : ℕ) → node ≢ home
      → shown node ≡ name_of father port → has_row old (new_row father port count) ≡ false
      → (i : ℕ) → i < length old → place i ≢ node
  no_place old past node father port count elsewhere shows lacks i lt same = elim (below_or_at 0 i (omega arith)) [
    | inl later ↦
        let names = same_names (row_at chart i).father (row_at chart i).port father port
        (sym (drawn.named i later (omega (arith, past.shorter))) ∙ (ap shown same ∙ shows)) in
        has_none old (new_row father port count) lacks i later lt (past.father i lt ∙ names.0)
        (past.port i lt ∙ names.1)
    | inr first ↦ elsewhere (sym same ∙ (ap place (sym first) ∙ drawn.places.start))
  ]

  -- ---- a row more

  module _ (node father port : ℕ) (named : IsNamed node father port) (elsewhere : node ≢ home)
      (shows : shown node ≡ name_of father port) (new : (i : ℕ) → i < length chart → place i ≢ node) where
    abbrev row_new : ChartRow
    row_new = new_row father port (degree game node)

    abbrev more : Chart
    more = chart ++ row_new ∷ []

    abbrev place_more : ℕ → ℕ
    place_more = with_node place (length chart) node

    longer : length more ≡ length chart + 1
    longer = more_length chart row_new

    early_row : (i : ℕ) → i < length chart → row_at more i ≡ row_at chart i
    early_row = more_early chart row_new

    last_row : row_at more (length chart) ≡ row_new
    last_row = more_last chart row_new

    early_place : (i : ℕ) → i < length chart → place_more i ≡ place i
    early_place = with_early place (length chart) node

    last_place : place_more (length chart) ≡ node
    last_place = with_last place (length chart) node

    early_state : (i p : ℕ) → i < length chart → state_at more i p ≡ state_at chart i p
    early_state i p lt = ap (λ (row : ChartRow). slice_index_or row.states p free) (early_row i lt)

    last_state : (p : ℕ) → state_at more (length chart) p ≡ free
    last_state p = ap (λ (row : ChartRow). slice_index_or row.states p free) last_row
        ∙ new_states father port (degree game node) p

    -- A property of each earlier row and of the new row holds for each row.
    each_row : (P : ℕ → Type 0) → ((i : ℕ) → i < length chart → P i) → P (length chart) → (i : ℕ) → i < length more
        → P i
    each_row P early last i lt = each_below P (length chart) early last i (omega (arith, longer))

    early_father : (i : ℕ) → 0 < i → i < length chart
        → place_more (row_at chart i).father ≡ place (row_at chart i).father
    early_father i later lt =
        let early : (row_at chart i).father < i = drawn.places.early i later lt in
        early_place (row_at chart i).father (omega arith)

    more_places : HasPlaces (graph game) home hole more place_more
    more_places = record {
      start = early_place 0 drawn.some ∙ drawn.places.start;
      early = λ i later lt. each_row (λ i. 0 < i → (row_at more i).father < i)
          (λ i lt later. subst (λ (row : ChartRow). row.father < i) (sym (early_row i lt))
          (drawn.places.early i later lt))
          (λ later. subst (λ (row : ChartRow). row.father < length chart) (sym last_row) named.within)
          i lt later;
      port = λ i later lt. each_row
          (λ i. 0 < i → (row_at more i).port < degree game (place_more (row_at more i).father))
          (λ i lt later. subst has_own (sym (early_row i lt))
          (subst (λ (k : ℕ). (row_at chart i).port < degree game k) (sym (early_father i later lt))
          (drawn.places.port i later lt)))
          (λ later. subst has_own (sym last_row)
          (subst (λ (k : ℕ). port < degree game k) (sym (early_place father named.within)) named.has))
          i lt later;
      there = λ i later lt. each_row (λ i. 0 < i → behind (row_at more i) ≡ place_more i)
          (λ i lt later. ap behind (early_row i lt)
          ∙ (ap (λ (k : ℕ). (far game k (row_at chart i).port).0) (early_father i later lt)
          ∙ (drawn.places.there i later lt ∙ sym (early_place i lt))))
          (λ later. ap behind last_row
          ∙ (ap (λ (k : ℕ). (far game k port).0) (early_place father named.within) ∙ (named.leads ∙ sym last_place)))
          i lt later;
      safe = each_row (λ i. place_more i ≢ hole)
          (λ i lt same. drawn.places.safe i lt (sym (early_place i lt) ∙ same))
          (λ same. named.safe (sym last_place ∙ same));
    }
      where
        has_own : ChartRow → Type 0
        has_own row = row.port < degree game (place_more row.father)

        behind : ChartRow → ℕ
        behind row = (far game (place_more row.father) row.port).0

    more_back : (i : ℕ) → i < length more → (p : ℕ) → p < degree game (place_more i) → state_at more i p ≡ done
        → LeadsToRow game more place_more (far game (place_more i) p).0
    more_back = each_row
        (λ i. (p : ℕ) → p < degree game (place_more i) → state_at more i p ≡ done
        → LeadsToRow game more place_more (far game (place_more i) p).0)
        (λ i lt p has is. leads_kept game drawn more place_more (omega (arith, longer)) early_place
        (far game (place_more i) p).0
        (subst (λ (k : ℕ). LeadsToRow game chart place (far game k p).0) (sym (early_place i lt))
        (drawn.back i p lt (subst (λ (k : ℕ). p < degree game k) (early_place i lt) has)
        (sym (early_state i p lt) ∙ is))))
        (λ p has is. absurd (omega (arith, last_state p)))

    more_states : (i : ℕ) → i < length more → (p : ℕ) → p < degree game (place_more i) → state_at more i p ≤ done
    more_states = each_row (λ i. (p : ℕ) → p < degree game (place_more i) → state_at more i p ≤ done)
        (λ i lt p has. subst (λ (s : ℕ). s ≤ done) (sym (early_state i p lt))
        (drawn.states i p lt (subst (λ (k : ℕ). p < degree game k) (early_place i lt) has)))
        (λ p has. omega (arith, last_state p))

    more_drawn : IsDrawn game more place_more shown reached
    more_drawn = record {
      some = omega (arith, longer);
      places = more_places;
      apart = first_places (size game) hole place_more (suc (length chart)) (length more)
          (with_places place (length chart) node (size game) hole drawn.apart named.node_within named.safe new)
          (omega (arith, longer));
      ports_are = each_row (λ i. ports_at more i ≡ degree game (place_more i))
          (λ i lt. ap (λ (row : ChartRow). length row.states) (early_row i lt)
          ∙ (drawn.ports_are i lt ∙ sym (ap (degree game) (early_place i lt))))
          (ap (λ (row : ChartRow). length row.states) last_row
          ∙ (new_ports father port (degree game node) ∙ sym (ap (degree game) last_place)));
      named = λ i later lt. each_row (λ i. 0 < i → shown (place_more i) ≡ own_name (row_at more i))
          (λ i lt later. ap shown (early_place i lt)
          ∙ (drawn.named i later lt ∙ sym (ap own_name (early_row i lt))))
          (λ later. ap shown last_place ∙ (shows ∙ sym (ap own_name last_row)))
          i lt later;
      names = names_kept game drawn more place_more (omega (arith, longer)) early_place shown (λ k other. refl);
      back = λ i p lt. more_back i lt p;
      states = λ i p lt. more_states i lt p;
    }
      where
        own_name : ChartRow → List ℕ
        own_name row = name_of row.father row.port

    more_held : (holder : ℕ → Option (ℕ × ℕ)) → AreHeld game chart place holder → AreHeld game more place_more holder
    more_held holder are = record {
      holds = λ k lt end is. let was = are.holds k lt end is in
          holds_kept game drawn more place_more (omega (arith, longer)) early_place end
          (early_state end.0 end.1 was.within) was;
      one = are.one;
      some = λ i p lt has is. each_row
          (λ i. p < degree game (place_more i) → state_at more i p ≡ claimed → Holder game holder (i, p))
          (λ i lt has is. are.some i p lt (subst (λ (k : ℕ). p < degree game k) (early_place i lt) has)
          (sym (early_state i p lt) ∙ is))
          (λ has is. absurd (omega (arith, last_state p)))
          i lt has is;
    }

    more_past : IsPast game chart more
    more_past = record {
      shorter = omega (arith, longer);
      father = λ i lt. sym (ap (λ (row : ChartRow). row.father) (early_row i lt));
      port = λ i lt. sym (ap (λ (row : ChartRow). row.port) (early_row i lt));
      ports_are = λ i lt. sym (ap (λ (row : ChartRow). length row.states) (early_row i lt));
    }

    -- the new ports are free
    more_sums : (f : ℕ → ℕ) → f free ≡ 0
        → sum_by (λ it. sum_by f it.states) more ≡ sum_by (λ it. sum_by f it.states) chart
    more_sums f none = omega (
      arith,
      more_sum chart row_new (λ it. sum_by f it.states),
      new_sum f father port (degree game node) none,
    )

    -- the state of a port may change before the row is added
    more_with : (row port state : ℕ) → row < length chart
        → with_state chart row port state ++ row_new ∷ [] ≡ with_state more row port state
    more_with row port state within = sym (
        ap (λ (it : ChartRow). slice_set more row (so it)) (early_row row within)
        ∙ set-append_left chart (row_new ∷ []) row (so (row_at chart row)) within
        )
      where
        so : ChartRow → ChartRow
        so it = record it { states = slice_set it.states port state }

    grown_more : (row own : ℕ) (found : Option ChartRow) (holder : ℕ → Option (ℕ × ℕ)) → row < length chart
        → (far game (place row) own).0 ≡ node → AreHeld game chart place holder
        → reported chart row own found ≡ with_state chart row own done ++ row_new ∷ []
        → HasGrown row own found holder
    grown_more row own found holder within to are is = record {
      chart_then = more;
      place_then = place_more;
      drawn_then = more_drawn;
      held = more_held holder are;
      leads = record {
        row = length chart;
        within = omega (arith, longer);
        is = ap (λ (k : ℕ). (far game k own).0) (early_place row within) ∙ (to ∙ sym last_place);
      };
      past = more_past;
      same_place = early_place;
      same_states = early_state;
      same_taken = more_sums taken_by refl;
      same_changes = more_sums (λ state. state) refl;
      is = is ∙ more_with row own done within;
    }

  -- ---- a row more, or none

  grown_none : (row port : ℕ) (found : Option ChartRow) (holder : ℕ → Option (ℕ × ℕ)) → AreHeld game chart place holder
      → LeadsToRow game chart place (far game (place row) port).0
      → reported chart row port found ≡ with_state chart row port done → HasGrown row port found holder
  grown_none row port found holder are leads is = record {
    chart_then = chart;
    place_then = place;
    drawn_then = drawn;
    held = are;
    leads = leads;
    past = past_itself game chart;
    same_place = λ i lt. refl;
    same_states = λ i p lt. refl;
    same_taken = refl;
    same_changes = refl;
    is = is;
  }

  -- A row with a node's name has that node as its place.
  row_there : (old : Chart) → IsPast game old chart → (node father port count : ℕ) → IsNamed node father port
      → has_row old (new_row father port count) ≡ true → LeadsToRow game chart place node
  row_there old past node father port count named there =
      let some = has_some old (new_row father port count) there in
      let low : some.0 < length chart = omega (arith, some.2, past.shorter) in
      record {
        row = some.0;
        within = low;
        is = sym named.leads
            ∙ (sym (ap₂ (λ (f p : ℕ). (far game (place f) p).0) (sym (past.father some.0 some.2) ∙ some.3)
            (sym (past.port some.0 some.2) ∙ some.4))
            ∙ drawn.places.there some.0 some.1 low);
      }

  pub grown : (row port : ℕ) (found : Option ChartRow) (holder : ℕ → Option (ℕ × ℕ)) → row < length chart
      → port < degree game (place row) → (far game (place row) port).0 ≢ hole
      → Found game shown (far game (place row) port).0 found → AreHeld game chart place holder
      → HasGrown row port found holder
  grown row port found holder within has safe is_found are = elim is_found [
    | inl h ↦ grown_none row port found holder are
        (record { row = 0; within = drawn.some; is = h.0 ∙ sym drawn.places.start })
        (ap (reported chart row port) h.1)
    | inr h ↦
        let node : ℕ = (far game (place row) port).0 in
        let it : ChartRow = new_row h.father h.port (degree game node) in
        let so : Chart = with_state chart row port done in
        let past : IsPast game so chart = past_state game chart chart (past_itself game chart) row port done within
        (has_port game drawn row port done within has) in
        let named : IsNamed node h.father h.port = is_named node h.father h.port h.elsewhere h.shows in
        elim (cases_Bool (has_row so it)) [
          | inl there ↦ grown_none row port found holder are
              (row_there so past node h.father h.port (degree game node) named there)
              (ap (reported chart row port) h.is ∙ cond-true (has_row so it) so (so ++ it ∷ []) there)
          | inr lacks ↦ grown_more node h.father h.port named h.elsewhere h.shows
              (λ i lt. no_place so past node h.father h.port (degree game node) h.elsewhere h.shows lacks i
              (omega (arith, state_length chart row port done within (has_port game drawn row port done within has))))
              row port found holder within refl are
              (ap (reported chart row port) h.is ∙ cond-false (has_row so it) so (so ++ it ∷ []) lacks)
        ]
  ]

  -- ---- texts fit on whiteboards

  -- The network's ports are the black hole's ports plus all other nodes' ports.
  beside : ports game + degree game hole ≡ total (degree game) (size game)
  beside = beside_is net can.network.labelled hole can.within

  module _ (old : Chart) (past : IsPast game old chart) where
    old_places : ArePlaces (size game) hole place (length old)
    old_places = first_places (size game) hole place (length chart) (length old) drawn.apart past.shorter

    old_ends : ends_of old ≡ total (λ i. degree game (place i)) (length old)
    old_ends = sum_is_total (λ (it : ChartRow). length it.states) old (new_row 0 0 0)
        ∙ total_same (λ i. ports_at old i) (λ i. degree game (place i)) (length old)
        (λ i lt. past.ports_are i lt ∙ drawn.ports_are i (omega (arith, past.shorter)))

    old_fits : length (text_of old) ≤ 6 * (size game - 1) + ports game
    old_fits = omega (
      arith,
      text_length old,
      old_ends,
      places_few (size game) hole can.within place (length old) old_places,
      places_have (size game) hole can.within place (length old) old_places (degree game),
      beside,
    )

    -- The text still fits after adding a row for a new node.
    more_fits : (node father port : ℕ) → node < size game → node ≢ hole → ((i : ℕ) → i < length old → place i ≢ node)
        → length (text_of (old ++ new_row father port (degree game node) ∷ [])) ≤ 6 * (size game - 1) + ports game
    more_fits node father port within safe new =
        let it : ChartRow = new_row father port (degree game node) in
        let place_so : ℕ → ℕ = with_node place (length old) node in
        let are : ArePlaces (size game) hole place_so (suc (length old)) =
        with_places place (length old) node (size game) hole old_places within safe new in
        omega (
          arith,
          text_length (old ++ it ∷ []),
          more_length old it,
          more_sum old it (λ row. length row.states),
          new_ports father port (degree game node),
          old_ends,
          total_same (λ i. degree game (place_so i)) (λ i. degree game (place i)) (length old)
              (λ i lt. ap (degree game) (with_early place (length old) node i lt)),
          ap (degree game) (with_last place (length old) node),
          places_few (size game) hole can.within place_so (suc (length old)) are,
          places_have (size game) hole can.within place_so (suc (length old)) are (degree game),
          beside,
        )

  pub claim_fits : (old : Chart) (row port state : ℕ) → IsPast game old chart → row < length old
      → port < ports_at old row
      → length (text_of (with_state old row port state)) ≤ 6 * (size game - 1) + ports game
  claim_fits old row port state past within has =
      old_fits (with_state old row port state) (past_state game old chart past row port state within has)

  pub report_fits : (old : Chart) (row port : ℕ) (found : Option ChartRow) → IsPast game old chart → row < length old
      → port < ports_at old row → (far game (place row) port).0 ≢ hole
      → Found game shown (far game (place row) port).0 found
      → length (text_of (reported old row port found)) ≤ 6 * (size game - 1) + ports game
  report_fits old row port found past within has safe is_found =
      let so : Chart = with_state old row port done in
      let past_so : IsPast game so chart = past_state game old chart past row port done within has in
      let fits : Chart → Type 0 = λ it. length (text_of it) ≤ 6 * (size game - 1) + ports game in
      elim is_found [
        | inl h ↦ subst fits (sym (ap (reported old row port) h.1)) (old_fits so past_so)
        | inr h ↦
            let node : ℕ = (far game (place row) port).0 in
            let it : ChartRow = new_row h.father h.port (degree game node) in
            let named : IsNamed node h.father h.port = is_named node h.father h.port h.elsewhere h.shows in
            subst fits (sym (ap (reported old row port) h.is)) (elim (cases_Bool (has_row so it)) [
              | inl there ↦ subst fits (sym (cond-true (has_row so it) so (so ++ it ∷ []) there)) (old_fits so past_so)
              | inr lacks ↦ subst fits (sym (cond-false (has_row so it) so (so ++ it ∷ []) lacks))
                  (more_fits so past_so node h.father h.port named.node_within named.safe
                  (no_place so past_so node h.father h.port (degree game node) h.elsewhere h.shows lacks))
            ])
      ]
