-- Charts and names are read as they were written.
use Rattle.std.proofs.Common.{ℕ, zero, suc, ◌+◌, ◌-◌, ◌*◌, ◌/◌, ◌%◌, ◌<◌, ◌≤◌, ◌≡◌, Some, None, List, [], ◌∷◌, ◌++◌}
use Rattle.std.proofs.Common.{length, map, take, drop, refl, sym, ap, ap₂, ◌∙◌, arith}
use Rattle.std.specs.Prelude.{slice_index}
use Rattle.std.proofs.lemmas.List.{length-append, length-map, take_at, drop_at}
use Rattle.std.proofs.lemmas.List.Sums.{sum_by-cons}
use Rattle.bhs_protocols_charts.specs.Charts.{Chart, ChartRow, ends_of, new_row, name_of, row_named, text_of, chart_of}
use Rattle.bhs_protocols_charts.specs.Charts.{value, row_text, rows_in, or_blank}

-- ---- numbers and states

value_again : (n : ℕ) → value (32 + n / 64) (32 + n % 64) ≡ n
value_again n = omega arith

states_again : (states : List ℕ) → map (λ code. code - 32) (map (λ state. 32 + state) states) ≡ states
states_again [] = refl
states_again (state ∷ states) =
    let head : 32 + state - 32 ≡ state = omega arith in
    ap₂ (λ (it : ℕ) (more : List ℕ). it ∷ more) head (states_again states)

-- ---- charts

pub text_length : (chart : Chart) → length (text_of chart) ≡ 6 * length chart + ends_of chart
text_length [] = refl
text_length (row ∷ chart) =
    omega (
      arith,
      length-append (row_text row) (text_of chart),
      length-map row.states (λ state. 32 + state),
      sum_by-cons (λ (it : ChartRow). length it.states) row chart,
      text_length chart,
    )

read_rows : (fuel : ℕ) (chart : Chart) → length chart ≤ fuel → rows_in fuel (text_of chart) ≡ chart
read_rows zero [] fits = refl
read_rows (suc fuel) [] fits = refl
read_rows zero (row ∷ chart) fits = absurd (omega arith)
read_rows (suc fuel) (row ∷ chart) fits =
    let codes : List ℕ = map (λ state. 32 + state) row.states in
    let count : ℕ = value (32 + length row.states / 64) (32 + length row.states % 64) in
    let counted : length codes ≡ count =
    length-map row.states (λ state. 32 + state) ∙ sym (value_again (length row.states)) in
    let father : value (32 + row.father / 64) (32 + row.father % 64) ≡ row.father = value_again row.father in
    let port : value (32 + row.port / 64) (32 + row.port % 64) ≡ row.port = value_again row.port in
    let states : map (λ code. code - 32) (take count (codes ++ text_of chart)) ≡ row.states =
    ap (map (λ code. code - 32)) (take_at codes (text_of chart) count counted) ∙ states_again row.states in
    let below : rows_in fuel (drop count (codes ++ text_of chart)) ≡ chart =
    ap (rows_in fuel) (drop_at codes (text_of chart) count counted) ∙ read_rows fuel chart (omega arith) in
    λ i. record { father = father i; port = port i; states = states i } ∷ below i

pub read_again : (ports : ℕ) (chart : Chart) → 0 < length chart → chart_of ports (text_of chart) ≡ chart
read_again ports [] some = absurd (omega arith)
read_again ports (row ∷ chart) some =
    ap (or_blank ports) (read_rows (length (text_of (row ∷ chart))) (row ∷ chart)
    (omega (arith, text_length (row ∷ chart))))

-- ---- names

pub name_again : (ports father port : ℕ) → row_named ports (name_of father port) ≡ Some (new_row father port ports)
name_again ports father port =
    ap₂ (λ (a b : ℕ). Some (new_row a b ports)) (value_again father) (value_again port)

-- the numbers in a name
father_in : List ℕ → ℕ
father_in text = value (slice_index text 0) (slice_index text 1)

port_in : List ℕ → ℕ
port_in text = value (slice_index text 2) (slice_index text 3)

pub same_names : (father port father_too port_too : ℕ) → name_of father port ≡ name_of father_too port_too
    → (father ≡ father_too) × (port ≡ port_too)
unfolding father_in port_in
same_names father port father_too port_too same = (
  sym (value_again father) ∙ ap father_in same ∙ value_again father_too,
  sym (value_again port) ∙ ap port_in same ∙ value_again port_too,
)

-- A text that is longer than a name is no name.
pub no_name : (ports : ℕ) (text : List ℕ) → 4 < length text → row_named ports text ≡ None
no_name ports [] long = refl
no_name ports (a ∷ []) long = refl
no_name ports (a ∷ b ∷ []) long = refl
no_name ports (a ∷ b ∷ c ∷ []) long = refl
no_name ports (a ∷ b ∷ c ∷ d ∷ []) long = absurd (omega arith)
no_name ports (a ∷ b ∷ c ∷ d ∷ e ∷ text) long = refl
