-- What a claim and a report change in a chart, and where the first port is whose state passes a test.
use Rattle.std.proofs.Common.{ℕ, zero, suc, ◌+◌, ◌*◌, ◌<◌, ◌≡◌, ◌⊎◌, Bool, true, false, ◌==◌, Option, Some, None}
use Rattle.std.proofs.Common.{List, [], ◌∷◌, ◌++◌, length, slice_set, slice_index_or, unwrap_or}
use Rattle.std.proofs.Common.{refl, sym, ap, ◌∙◌, subst, inl, inr, ⊎_elim, arith, mul-zero, true≢false}
use Rattle.std.specs.Prelude.{◌≢◌, sum_by}
use Rattle.std.specs.List.{list_any}
use Rattle.std.proofs.lemmas.Bool.{false≢true, cases_eq, cases_Bool, cases_lt, cond-true, cond-false}
use Rattle.std.proofs.lemmas.Bool.{false_from_ne_true, or_cases, and_from, and_parts, eq-eqb, eqb-true}
use Rattle.std.proofs.lemmas.List.{length-set, length_push, length-replicate, get_or-set_same, get_or-set_other}
use Rattle.std.proofs.lemmas.List.{get_or_append_left, get_or_push, get_or-replicate, get_or_past}
use Rattle.std.proofs.lemmas.List.Sums.{sum_by-set, sum_by_push}
use Rattle.std.proofs.lemmas.List.Folds.{sum_by-replicate, list_any_at}
use Rattle.bhs_protocols_charts.specs.Charts.{Chart, ChartRow, free, new_row, row_at, state_at, with_state}
use Rattle.bhs_protocols_charts.specs.Charts.{first_end, first_port, or_later, has_row, is_same_name, ends_of}

abbrev pub ports_at : Chart → (row : ℕ) → ℕ
ports_at chart row = length (row_at chart row).states

-- ---- another state of a port

module _ (chart : Chart) (row port state : ℕ) (within : row < length chart) (has : port < ports_at chart row) where
  -- the row with that state
  abbrev changed : ChartRow
  changed = record (row_at chart row) { states = slice_set (row_at chart row).states port state }

  row_same : row_at (with_state chart row port state) row ≡ changed
  row_same = get_or-set_same chart row changed (new_row 0 0 0) within

  row_other : (i : ℕ) → i ≢ row → row_at (with_state chart row port state) i ≡ row_at chart i
  row_other i apart = get_or-set_other chart row i changed (new_row 0 0 0) apart

  row_kept : (f : ChartRow → ℕ) → f changed ≡ f (row_at chart row) → (i : ℕ)
      → f (row_at (with_state chart row port state) i) ≡ f (row_at chart i)
  row_kept f stays i = ⊎_elim
      (λ same. ap (λ (j : ℕ). f (row_at (with_state chart row port state) j)) same ∙ ap f row_same ∙ stays
      ∙ ap (λ (j : ℕ). f (row_at chart j)) (sym same))
      (λ apart. ap f (row_other i apart))
      (cases_eq i row)

  pub state_length : length (with_state chart row port state) ≡ length chart
  state_length = length-set chart row changed

  pub state_father : (i : ℕ) → (row_at (with_state chart row port state) i).father ≡ (row_at chart i).father
  state_father = row_kept (λ it. it.father) refl

  pub state_port : (i : ℕ) → (row_at (with_state chart row port state) i).port ≡ (row_at chart i).port
  state_port = row_kept (λ it. it.port) refl

  pub state_ports : (i : ℕ) → ports_at (with_state chart row port state) i ≡ ports_at chart i
  state_ports = row_kept (λ it. length it.states) (length-set (row_at chart row).states port state)

  pub state_same : state_at (with_state chart row port state) row port ≡ state
  state_same = ap (λ (it : ChartRow). slice_index_or it.states port free) row_same
      ∙ get_or-set_same (row_at chart row).states port state free has

  pub state_other : (i p : ℕ) → ((i ≡ row) → (p ≡ port) → ⊥) → state_at (with_state chart row port state) i p
      ≡ state_at chart i p
  state_other i p apart = ⊎_elim
      (λ same. ap (λ (j : ℕ). state_at (with_state chart row port state) j p) same
      ∙ ap (λ (it : ChartRow). slice_index_or it.states p free) row_same
      ∙ get_or-set_other (row_at chart row).states port p state free (apart same)
      ∙ ap (λ (j : ℕ). state_at chart j p) (sym same))
      (λ elsewhere. ap (λ (it : ChartRow). slice_index_or it.states p free) (row_other i elsewhere))
      (cases_eq i row)

  pub state_ends : ends_of (with_state chart row port state) ≡ ends_of chart
  state_ends = omega (
    arith,
    sum_by-set (λ (it : ChartRow). length it.states) chart row changed (new_row 0 0 0) within,
    length-set (row_at chart row).states port state,
  )

  -- The sum over all ports changes by the change of one state.
  pub state_sum : (f : ℕ → ℕ) → sum_by (λ it. sum_by f it.states) (with_state chart row port state)
      + f (state_at chart row port) ≡ sum_by (λ it. sum_by f it.states) chart + f state
  state_sum f = omega (
    arith,
    sum_by-set (λ (it : ChartRow). sum_by f it.states) chart row changed (new_row 0 0 0) within,
    sum_by-set f (row_at chart row).states port state free has,
  )

-- ---- one row more

module _ (chart : Chart) (it : ChartRow) where
  pub more_length : length (chart ++ it ∷ []) ≡ length chart + 1
  more_length = length_push chart it

  pub more_early : (i : ℕ) → i < length chart → row_at (chart ++ it ∷ []) i ≡ row_at chart i
  more_early i early = get_or_append_left chart (it ∷ []) (new_row 0 0 0) i early

  pub more_last : row_at (chart ++ it ∷ []) (length chart) ≡ it
  more_last = get_or_push chart it (new_row 0 0 0) (length chart) refl

  pub more_sum : (f : ChartRow → ℕ) → sum_by f (chart ++ it ∷ []) ≡ sum_by f chart + f it
  more_sum f = sum_by_push f chart it

-- all ports of a new row are free
pub new_states : (father port ports p : ℕ) → state_at (new_row father port ports ∷ []) 0 p ≡ free
new_states father port ports p = ⊎_elim
    (λ below. get_or-replicate ports p free free below)
    (λ past. get_or_past (new_row father port ports).states p free (omega (arith, length-replicate ports free)))
    (cases_lt p ports)

pub new_ports : (father port ports : ℕ) → length (new_row father port ports).states ≡ ports
new_ports father port ports = length-replicate ports free

pub new_sum : (f : ℕ → ℕ) (father port ports : ℕ) → f free ≡ 0 → sum_by f (new_row father port ports).states ≡ 0
new_sum f father port ports none =
    sum_by-replicate f ports free ∙ ap (λ (n : ℕ). ports * n) none ∙ mul-zero ports

-- Case analysis: no row except the home base's has this name, or some row has.
pub has_none : (chart : Chart) (it : ChartRow) → has_row chart it ≡ false → (i : ℕ) → 0 < i → i < length chart
    → ((row_at chart i).father ≡ it.father) → ((row_at chart i).port ≡ it.port) → ⊥
has_none [] it none i later within father port = absurd (omega arith)
has_none (first ∷ chart) it none zero later within father port = absurd (omega arith)
has_none (first ∷ chart) it none (suc i) later within father port =
    true≢false (sym (list_any_at (is_same_name it) chart i (new_row 0 0 0) (omega arith)
    (and_from _ _ (eq-eqb _ _ (sym father)) (eq-eqb _ _ (sym port)))) ∙ none)

-- a row of the list that passes the test
some_place : (test : ChartRow → Bool) (chart : Chart) → list_any test chart ≡ true
    → (i : ℕ) × (i < length chart) × (test (row_at chart i) ≡ true)
some_place test [] some = absurd (false≢true some)
some_place test (first ∷ chart) some = ⊎_elim
    (λ here. (0, omega arith, here))
    (λ below. let place = some_place test chart below in (suc place.0, omega arith, place.2))
    (or_cases (test first) (list_any test chart) some)

pub has_some : (chart : Chart) (it : ChartRow) → has_row chart it ≡ true → (i : ℕ) × (0 < i) × (i < length chart)
    × ((row_at chart i).father ≡ it.father) × ((row_at chart i).port ≡ it.port)
has_some [] it some = absurd (false≢true some)
has_some (first ∷ chart) it some =
    let place : (i : ℕ) × (i < length chart) × (is_same_name it (row_at chart i) ≡ true) =
    some_place (is_same_name it) chart some in
    let other : ChartRow = row_at chart place.0 in
    let parts = and_parts (it.father == other.father) (it.port == other.port) place.2 in
    (suc place.0, omega arith, omega arith, sym (eqb-true _ _ parts.0), sym (eqb-true _ _ parts.1))

-- ---- the first port

module _ (test : ℕ → Bool) where
  -- a port whose state passes, where the first one has this number
  abbrev PassesAt : (states : List ℕ) → (first port : ℕ) → Type 0
  PassesAt states first port =
      (k : ℕ) × (port ≡ first + k) × (k < length states) × (test (slice_index_or states k free) ≡ true)

  port_here : (state : ℕ) (states : List ℕ) (first : ℕ) → test state ≡ true
      → first_port test (state ∷ states) first ≡ Some first
  port_here state states first = cond-true (test state) (Some first) (first_port test states (first + 1))

  port_later : (state : ℕ) (states : List ℕ) (first : ℕ) → test state ≡ false
      → first_port test (state ∷ states) first ≡ first_port test states (first + 1)
  port_later state states first = cond-false (test state) (Some first) (first_port test states (first + 1))

  port_is : (states : List ℕ) (first port : ℕ) → first_port test states first ≡ Some port → PassesAt states first port
  port_is [] first port found = absurd (cc)
  port_is (state ∷ states) first port found = ⊎_elim
      (λ yes. let same : Some first ≡ Some port = sym (port_here state states first yes) ∙ found in
      (0, omega (arith, ap (λ (it : Option ℕ). unwrap_or it first) same), omega arith, yes))
      (λ no. let place : PassesAt states (first + 1) port =
      port_is states (first + 1) port (sym (port_later state states first no) ∙ found) in
      (suc place.0, omega arith, omega arith, place.3))
      (cases_Bool (test state))

  first_fails : (state : ℕ) (states : List ℕ) (first : ℕ) → first_port test (state ∷ states) first ≡ None
      → test state ≡ false
  first_fails state states first none = false_from_ne_true (test state)
      (λ yes. let here : Some first ≡ None = sym (port_here state states first yes) ∙ none in cc)

  no_port : (states : List ℕ) (first : ℕ) → first_port test states first ≡ None → (port : ℕ)
      → port < length states → test (slice_index_or states port free) ≡ false
  no_port [] first none port has = absurd (omega arith)
  no_port (state ∷ states) first none zero has = first_fails state states first none
  no_port (state ∷ states) first none (suc port) has = no_port states (first + 1)
      (sym (port_later state states first (first_fails state states first none)) ∙ none) port (omega arith)

pub record IsEnd (chart : Chart) (test : ℕ → Bool) (row port : ℕ) : Type 0 where
  pub within : row < length chart
  pub has : port < ports_at chart row
  pub passes : test (state_at chart row port) ≡ true

-- Case analysis: the port belongs to the first row, or to a later one.
here_or_later : (row : ℕ) (here : Option ℕ) (later : Option (ℕ × ℕ)) (end : ℕ × ℕ) → or_later row here later ≡ Some end
    → ((end.0 ≡ row) × (here ≡ Some end.1)) ⊎ (later ≡ Some end)
here_or_later row None later end found = inr found
here_or_later row (Some port) later end found =
    let same : (row, port) ≡ end = ap (λ (it : Option (ℕ × ℕ)). unwrap_or it end) found in
    inl (ap (λ (it : ℕ × ℕ). it.0) (sym same), ap (λ (it : ℕ × ℕ). Some it.1) same)

nor_later : (row : ℕ) (here : Option ℕ) (later : Option (ℕ × ℕ)) → or_later row here later ≡ None
    → (here ≡ None) × (later ≡ None)
nor_later row None later none = (refl, none)
nor_later row (Some port) later none = absurd (cc)

-- an end, where the first row has this number
abbrev EndAt : (test : ℕ → Bool) → Chart → (first : ℕ) → (end : ℕ × ℕ) → Type 0
EndAt test chart first end = (k : ℕ) × (end.0 ≡ first + k) × IsEnd chart test k end.1

end_is : (test : ℕ → Bool) (chart : Chart) (first : ℕ) (end : ℕ × ℕ) → first_end test chart first ≡ Some end
    → EndAt test chart first end
end_is test [] first end found = absurd (cc)
end_is test (it ∷ chart) first end found = ⊎_elim
    (λ here. let place : PassesAt test it.states 0 end.1 = port_is test it.states 0 end.1 here.1 in
    let same : place.0 ≡ end.1 = omega arith in
    let is_end : IsEnd (it ∷ chart) test 0 place.0 =
    record { within = omega arith; has = place.2; passes = place.3 } in
    (0, omega (arith, here.0), subst (λ (port : ℕ). IsEnd (it ∷ chart) test 0 port) same is_end))
    (λ later. let place : EndAt test chart (first + 1) end = end_is test chart (first + 1) end later in
    let is_end : IsEnd (it ∷ chart) test (suc place.0) end.1 =
    record { within = omega (arith, place.2.within); has = place.2.has; passes = place.2.passes } in
    (suc place.0, omega arith, is_end))
    (here_or_later first (first_port test it.states 0) (first_end test chart (first + 1)) end found)

pub first_is : (test : ℕ → Bool) (chart : Chart) (end : ℕ × ℕ) → first_end test chart 0 ≡ Some end
    → IsEnd chart test end.0 end.1
first_is test chart end found =
    let place : EndAt test chart 0 end = end_is test chart 0 end found in
    let same : place.0 ≡ end.0 = omega arith in
    subst (λ (row : ℕ). IsEnd chart test row end.1) same place.2

no_end : (test : ℕ → Bool) (chart : Chart) (first : ℕ) → first_end test chart first ≡ None
    → (row port : ℕ) → row < length chart → port < ports_at chart row → test (state_at chart row port) ≡ false
no_end test [] first none row port within has = absurd (omega arith)
no_end test (it ∷ chart) first none zero port within has =
    no_port test it.states 0 (nor_later first (first_port test it.states 0) (first_end test chart (first + 1)) none).0
    port has
no_end test (it ∷ chart) first none (suc row) port within has =
    no_end test chart (first + 1)
    (nor_later first (first_port test it.states 0) (first_end test chart (first + 1)) none).1
    row port (omega arith) has

pub none_passes : (test : ℕ → Bool) (chart : Chart) → first_end test chart 0 ≡ None
    → (row port : ℕ) → row < length chart → port < ports_at chart row → test (state_at chart row port) ≡ false
none_passes test chart none = no_end test chart 0 none
