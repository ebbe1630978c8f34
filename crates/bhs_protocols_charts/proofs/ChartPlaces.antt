-- Some of the places of a chart, and one place more.
use Rattle.std.proofs.Common.{ℕ, suc, ◌<◌, ◌≤◌, ◌≡◌, refl, sym, ◌∙◌, subst, inl, inr, arith}
use Rattle.std.specs.Prelude.{◌≢◌}
use Rattle.std.proofs.lemmas.Bool.{ne_eqb}
use Rattle.bhs_net.proofs.Places.{below_or_at}
use Rattle.bhs_model.specs.Runs.{changed}
use Rattle.bhs_model.proofs.StepLemmas.{changed_same, changed_other}
use Rattle.bhs_protocols_charts.proofs.HoleEnds.{ArePlaces}

-- extends a property of all smaller numbers by the bound itself
pub each_below : (P : ℕ → Type 0) (rows : ℕ) → ((i : ℕ) → i < rows → P i) → P rows → (i : ℕ) → i < suc rows → P i
each_below P rows early last i lt = elim (below_or_at i rows (omega arith)) [
  | inl h ↦ early i h
  | inr h ↦ subst P (sym h) last
]

-- the first of the places
pub first_places : (nodes hole : ℕ) (place : ℕ → ℕ) (rows few : ℕ) → ArePlaces nodes hole place rows → few ≤ rows
    → ArePlaces nodes hole place few
first_places nodes hole place rows few are fewer = record {
  within = λ i lt. are.within i (omega arith);
  safe = λ i lt. are.safe i (omega arith);
  apart = λ i j lt low. are.apart i j (omega arith) (omega arith);
}

-- the places, extended by one node
module _ (place : ℕ → ℕ) (rows node : ℕ) where
  abbrev pub with_node : ℕ → ℕ
  with_node = changed place rows node

  pub with_early : (i : ℕ) → i < rows → with_node i ≡ place i
  with_early i lt = changed_other place rows i node (ne_eqb i rows (λ same. omega arith))

  pub with_last : with_node rows ≡ node
  with_last = changed_same place rows node

  module _ (nodes hole : ℕ) (are : ArePlaces nodes hole place rows) (within : node < nodes) (safe : node ≢ hole)
      (new : (i : ℕ) → i < rows → place i ≢ node) where
    apart_early : (i : ℕ) → i < rows → (j : ℕ) → j < suc rows → with_node i ≡ with_node j → i ≡ j
    apart_early i lt = each_below (λ j. with_node i ≡ with_node j → i ≡ j) rows
        (λ j low same. are.apart i j lt low (sym (with_early i lt) ∙ (same ∙ with_early j low)))
        (λ same. absurd (new i lt (sym (with_early i lt) ∙ (same ∙ with_last))))

    apart_last : (j : ℕ) → j < suc rows → with_node rows ≡ with_node j → rows ≡ j
    apart_last = each_below (λ j. with_node rows ≡ with_node j → rows ≡ j) rows
        (λ j low same. absurd (new j low (sym (with_early j low) ∙ (sym same ∙ with_last))))
        (λ same. refl)

    pub with_places : ArePlaces nodes hole with_node (suc rows)
    with_places = record {
      within = each_below (λ i. with_node i < nodes) rows
          (λ i lt. subst (λ (k : ℕ). k < nodes) (sym (with_early i lt)) (are.within i lt))
          (subst (λ (k : ℕ). k < nodes) (sym with_last) within);
      safe = each_below (λ i. with_node i ≢ hole) rows
          (λ i lt same. are.safe i lt (sym (with_early i lt) ∙ same))
          (λ same. safe (sym with_last ∙ same));
      apart = λ i j lt low same. each_below (λ i. (j : ℕ) → j < suc rows → with_node i ≡ with_node j → i ≡ j) rows
          apart_early apart_last i lt j low same;
    }
