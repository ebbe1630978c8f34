-- Loop invariants of the program: the remaining part of a list, of a text, and of a path.
use Rattle.std.proofs.Common.{ℕ, zero, suc, ◌+◌, ◌-◌, ◌<◌, ◌≤◌, ◌≡◌, ◌≢◌, inl, inr}
use Rattle.std.proofs.Common.{List, [], ◌∷◌, ◌++◌, length, take, drop, refl, sym, ap, ◌∙◌, arith}
use Rattle.std.proofs.Common.{append_assoc, sub-one, get_or, drop-drop}
use Rattle.std.specs.Prelude.{min, count_by}
use Rattle.std.proofs.Math.Seq.{take-length}
use Rattle.std.proofs.lemmas.Bool.{cases_lt}
use Rattle.std.proofs.lemmas.List.{length-drop, length-map, length-take, take_all, drop_all}
use Rattle.std.proofs.lemmas.List.Sums.{sum_by-cons, count_by-le-length}
use Rattle.bhs_protocols_charts.specs.Charts.{Chart, ChartRow, ends_of, open_ends_of}
use Rattle.bhs_protocols_charts.specs.Charts.{is_open, rows_in, value, path_to, row_at}
use Rattle.bhs_protocols_charts.specs.Programs.{row_read}
use Rattle.bhs_protocols_charts.proofs.ChartPaths.{path_on}

-- ---- paths

pub path_here : (chart : Chart) (fuel at : ℕ) (ports : List ℕ) → 0 < fuel → at ≢ 0
    → path_to chart fuel at ++ ports
    ≡ path_to chart (fuel - 1) (row_at chart at).father ++ (row_at chart at).port ∷ ports
path_here chart zero at ports some other = absurd (omega arith)
path_here chart (suc fuel) zero ports some other = absurd (other refl)
path_here chart (suc fuel) (suc at) ports some other =
    let row : ChartRow = row_at chart (suc at) in
    rw (sub-one, path_on chart fuel at) (append_assoc (path_to chart fuel row.father) (row.port ∷ []) ports)

-- ---- texts

-- fuel for each character suffices
rows_fuel : (fuel more : ℕ) (text : List ℕ) → length text ≤ fuel → length text ≤ more
    → rows_in fuel text ≡ rows_in more text
rows_fuel zero zero text enough too = refl
rows_fuel zero (suc more) [] enough too = refl
rows_fuel zero (suc more) (a ∷ text) enough too = absurd (omega arith)
rows_fuel (suc fuel) zero [] enough too = refl
rows_fuel (suc fuel) zero (a ∷ text) enough too = absurd (omega arith)
rows_fuel (suc fuel) (suc more) [] enough too = refl
rows_fuel (suc fuel) (suc more) (a ∷ []) enough too = refl
rows_fuel (suc fuel) (suc more) (a ∷ b ∷ []) enough too = refl
rows_fuel (suc fuel) (suc more) (a ∷ b ∷ c ∷ []) enough too = refl
rows_fuel (suc fuel) (suc more) (a ∷ b ∷ c ∷ d ∷ []) enough too = refl
rows_fuel (suc fuel) (suc more) (a ∷ b ∷ c ∷ d ∷ e ∷ []) enough too = refl
rows_fuel (suc fuel) (suc more) (a ∷ b ∷ c ∷ d ∷ e ∷ f ∷ rest) enough too =
    ap (λ (rows : Chart). row_read (value a b) (value c d) (take (value e f) rest) ∷ rows)
    (rows_fuel fuel more (drop (value e f) rest)
    (omega (arith, length-drop (value e f) rest)) (omega (arith, length-drop (value e f) rest)))

take_least : (count : ℕ) (rest : List ℕ) → take (min count (length rest)) rest ≡ take count rest
take_least count rest = elim (cases_lt count (length rest)) [
  | inl few ↦ let e : min count (length rest) ≡ count = omega arith in rw e refl
  | inr many ↦
      let e : min count (length rest) ≡ length rest = omega arith in
      rw e (take-length rest ∙ sym (take_all count rest many))
]

drop_least : (count : ℕ) (rest : List ℕ) → drop (min count (length rest)) rest ≡ drop count rest
drop_least count rest = elim (cases_lt count (length rest)) [
  | inl few ↦ let e : min count (length rest) ≡ count = omega arith in rw e refl
  | inr many ↦
      let e : min count (length rest) ≡ length rest = omega arith in
      rw e (drop_all (length rest) rest (omega arith) ∙ sym (drop_all count rest many))
]

-- the first row of a text, followed by the other rows
pub rows_here : (text : List ℕ) (ports : ℕ) → 6 ≤ length text
    → ports ≡ min (value (get_or text 4 0) (get_or text 5 0)) (length (drop 6 text))
    → rows_in (length text) text
    ≡ row_read (value (get_or text 0 0) (get_or text 1 0)) (value (get_or text 2 0) (get_or text 3 0))
    (take ports (drop 6 text))
    ∷ rows_in (length (drop ports (drop 6 text))) (drop ports (drop 6 text))
rows_here [] ports long least = absurd (omega arith)
rows_here (a ∷ []) ports long least = absurd (omega arith)
rows_here (a ∷ b ∷ []) ports long least = absurd (omega arith)
rows_here (a ∷ b ∷ c ∷ []) ports long least = absurd (omega arith)
rows_here (a ∷ b ∷ c ∷ d ∷ []) ports long least = absurd (omega arith)
rows_here (a ∷ b ∷ c ∷ d ∷ e ∷ []) ports long least = absurd (omega arith)
rows_here (a ∷ b ∷ c ∷ d ∷ e ∷ f ∷ rest) ports long least =
    let taken : take ports rest ≡ take (value e f) rest = rw least (take_least (value e f) rest) in
    let left : drop ports rest ≡ drop (value e f) rest = rw least (drop_least (value e f) rest) in
    let again : rows_in (length (b ∷ c ∷ d ∷ e ∷ f ∷ rest)) (drop (value e f) rest)
    ≡ rows_in (length (drop ports rest)) (drop ports rest) =
    rw left (rows_fuel (length (b ∷ c ∷ d ∷ e ∷ f ∷ rest)) (length (drop (value e f) rest)) (drop (value e f) rest)
    (omega (arith, length-drop (value e f) rest)) (omega arith)) in
    λ i. row_read (value a b) (value c d) (sym taken i) ∷ again i

-- with the number of characters that the first row has
pub row_first : (text : List ℕ) (ports : ℕ) → 6 ≤ length text
    → ports ≡ min (value (get_or text 4 0) (get_or text 5 0)) (length text - 6)
    → rows_in (length text) text
    ≡ row_read (value (get_or text 0 0) (get_or text 1 0)) (value (get_or text 2 0) (get_or text 3 0))
    (take ports (drop 6 text))
    ∷ rows_in (length (drop (6 + ports) text)) (drop (6 + ports) text)
row_first text ports long least =
    let count : ℕ = value (get_or text 4 0) (get_or text 5 0) in
    rw (← drop-drop ports 6 text) (rows_here text ports long (least ∙ ap (min count) (sym (length-drop 6 text))))

pub rows_end : (text : List ℕ) → length text < 6 → rows_in (length text) text ≡ []
rows_end [] short = refl
rows_end (a ∷ []) short = refl
rows_end (a ∷ b ∷ []) short = refl
rows_end (a ∷ b ∷ c ∷ []) short = refl
rows_end (a ∷ b ∷ c ∷ d ∷ []) short = refl
rows_end (a ∷ b ∷ c ∷ d ∷ e ∷ []) short = refl
rows_end (a ∷ b ∷ c ∷ d ∷ e ∷ f ∷ rest) short = absurd (omega arith)

-- its nodes have no more ports together than the text has characters
pub few_ends : (fuel : ℕ) (text : List ℕ) → ends_of (rows_in fuel text) ≤ length text
few_ends zero text = omega arith
few_ends (suc fuel) [] = omega arith
few_ends (suc fuel) (a ∷ []) = omega arith
few_ends (suc fuel) (a ∷ b ∷ []) = omega arith
few_ends (suc fuel) (a ∷ b ∷ c ∷ []) = omega arith
few_ends (suc fuel) (a ∷ b ∷ c ∷ d ∷ []) = omega arith
few_ends (suc fuel) (a ∷ b ∷ c ∷ d ∷ e ∷ []) = omega arith
few_ends (suc fuel) (a ∷ b ∷ c ∷ d ∷ e ∷ f ∷ rest) =
    omega (
      arith,
      sum_by-cons (λ (it : ChartRow). length it.states)
          (row_read (value a b) (value c d) (take (value e f) rest)) (rows_in fuel (drop (value e f) rest)),
      length-map (take (value e f) rest) (λ code. code - 32),
      length-take (value e f) rest,
      length-drop (value e f) rest,
      few_ends fuel (drop (value e f) rest),
    )

-- no more ports are open than there are
pub few_open : (chart : Chart) → open_ends_of chart ≤ ends_of chart
few_open [] = omega arith
few_open (row ∷ chart) =
    omega (
      arith,
      sum_by-cons (λ (it : ChartRow). length it.states) row chart,
      sum_by-cons (λ (it : ChartRow). count_by is_open it.states) row chart,
      count_by-le-length is_open row.states,
      few_open chart,
    )
