-- Loop invariant: writing lines in order.
use Rattle.std.proofs.Common.{◌≡◌, ℕ, ◌+◌, ◌<◌, ◌≤◌, List, ◌∷◌, ◌++◌, length, drop, get_or, sym, ap, ◌∙◌}
use Rattle.std.proofs.Common.{append_assoc}
use Rattle.std.proofs.lemmas.List.{append-nil, drop_more}
use Rattle.std.proofs.Math.ListN.{drop_of_length-le}
use Rattle.bhs_shared_match.specs.declared.copies.Copied.{Copied}
use Rattle.bhs_cli_serve.specs.Recording.{full_line, lines_of}

module _ (all : List Copied) (place : ℕ) (text whole : List ℕ)
    (so_far : text ++ lines_of (drop place all) ≡ whole) where
  pub goes_on : (one : Copied) (line new : List ℕ) → place < length all → one ≡ get_or all place one
      → line ≡ full_line one → new ≡ text ++ line → new ++ lines_of (drop (place + 1) all) ≡ whole
  goes_on one line new lt is same grown =
      let rest = drop (place + 1) all in
      let e : drop place all ≡ one ∷ rest = drop_more all place one lt ∙ ap (λ x. x ∷ rest) (sym is) in
      ap (λ (bytes : List ℕ). bytes ++ lines_of rest) (grown ∙ ap (λ (bytes : List ℕ). text ++ bytes) same)
      ∙ append_assoc text (full_line one) (lines_of rest)
      ∙ sym (ap (λ (others : List Copied). text ++ lines_of others) e)
      ∙ so_far

  pub ends : length all ≤ place → text ≡ whole
  ends le = sym (append-nil text)
      ∙ sym (ap (λ (others : List Copied). text ++ lines_of others) (drop_of_length-le all le)) ∙ so_far
