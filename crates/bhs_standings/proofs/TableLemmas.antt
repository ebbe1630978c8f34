-- Printing the lines of a table in a loop.
use Rattle.std.proofs.Common.{◌≡◌, ℕ, ◌+◌, ◌<◌, ◌≤◌, List, ◌∷◌, ◌++◌, length, drop, get_or, sym, ap, ◌∙◌, append_assoc}
use Rattle.std.specs.Prelude.{slice_get}
use Rattle.std.proofs.lemmas.List.{append-nil, drop_more}
use Rattle.std.proofs.Math.ListN.{drop_of_length-le}
use Rattle.bhs_standings.specs.declared.rows.Row.{Row}
use Rattle.bhs_standings.specs.Tables.{line_of, lines_from}

module _ (rows : List Row) (places : List ℕ) (ahead : ℕ) (text whole : List ℕ)
    (so_far : text ++ lines_from (ahead + 1) rows (drop ahead places) ≡ whole) where
  pub goes_on : (at : ℕ) (new : List ℕ) → ahead < length places → at ≡ get_or places ahead 0
      → new ≡ text ++ line_of (ahead + 1) (slice_get rows at) →
      new ++ lines_from (ahead + 1 + 1) rows (drop (ahead + 1) places) ≡ whole
  goes_on at new lt is grown =
      let rest = drop (ahead + 1) places in
      let e : drop ahead places ≡ at ∷ rest = drop_more places ahead 0 lt ∙ ap (λ x. x ∷ rest) (sym is) in
      ap (λ (bytes : List ℕ). bytes ++ lines_from (ahead + 1 + 1) rows rest) grown
      ∙ append_assoc text (line_of (ahead + 1) (slice_get rows at)) (lines_from (ahead + 1 + 1) rows rest)
      ∙ sym (ap (λ ats. text ++ lines_from (ahead + 1) rows ats) e)
      ∙ so_far

  pub ends : length places ≤ ahead → text ≡ whole
  ends le = sym (append-nil text) ∙ sym (ap (λ ats. text ++ lines_from (ahead + 1) rows ats)
      (drop_of_length-le places le)) ∙ so_far
