-- The text of a list of numbers, built by a loop.
use Rattle.std.proofs.Common.{◌≡◌, sym, ap, ◌∙◌, ℕ, ◌+◌, ◌<◌, ◌≤◌, List, ◌++◌, codes, decimal, length}
use Rattle.std.proofs.Common.{drop, get_or}
use Rattle.std.proofs.Common.{append_assoc}
use Rattle.std.proofs.lemmas.List.{append-nil, drop_more}
use Rattle.std.proofs.Math.ListN.{drop_of_length-le}
use Rattle.bhs_cli_explore.specs.Discoveries.{items_text, pair_items, pair_text}

module _ (all : List ℕ) (place : ℕ) (before text whole : List ℕ)
    (so_far : text ++ items_text before (drop place all) ≡ whole) where
  pub goes_on : (one new : List ℕ) → place < length all → one ≡ before ++ decimal (get_or all place 0)
      → new ≡ text ++ one → new ++ items_text (codes ",") (drop (place + 1) all) ≡ whole
  goes_on one new lt same grown =
      let rest = drop (place + 1) all in
      ap (λ (bytes : List ℕ). bytes ++ items_text (codes ",") rest)
      (grown ∙ ap (λ (bytes : List ℕ). text ++ bytes) same)
      ∙ (append_assoc text (before ++ decimal (get_or all place 0)) (items_text (codes ",") rest)
      ∙ (sym (ap (λ ns. text ++ items_text before ns) (drop_more all place 0 lt)) ∙ so_far))

  pub ends : length all ≤ place → text ≡ whole
  ends le =
      sym (append-nil text) ∙ (sym (ap (λ ns. text ++ items_text before ns) (drop_of_length-le all le)) ∙ so_far)

-- the same of pairs
module _ (all : List (ℕ × ℕ)) (place : ℕ) (before text whole : List ℕ)
    (so_far : text ++ pair_items before (drop place all) ≡ whole) where
  pub pairs_go_on : (one new : List ℕ) → place < length all → one ≡ before ++ pair_text (get_or all place (0, 0))
      → new ≡ text ++ one → new ++ pair_items (codes ",") (drop (place + 1) all) ≡ whole
  pairs_go_on one new lt same grown =
      let rest = drop (place + 1) all in
      ap (λ (bytes : List ℕ). bytes ++ pair_items (codes ",") rest)
      (grown ∙ ap (λ (bytes : List ℕ). text ++ bytes) same)
      ∙ (append_assoc text (before ++ pair_text (get_or all place (0, 0))) (pair_items (codes ",") rest)
      ∙ (sym (ap (λ (ps : List (ℕ × ℕ)). text ++ pair_items before ps) (drop_more all place (0, 0) lt)) ∙ so_far))

  pub pairs_end : length all ≤ place → text ≡ whole
  pairs_end le =
      sym (append-nil text)
      ∙ (sym (ap (λ (ps : List (ℕ × ℕ)). text ++ pair_items before ps) (drop_of_length-le all le)) ∙ so_far)
