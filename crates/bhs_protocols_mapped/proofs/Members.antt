-- Membership in lists of nodes.
use Rattle.std.proofs.Common.{ℕ, zero, suc, ◌<◌, ◌≤◌, ◌≡◌, ◌⊎◌, Bool, true, false, ◌||◌, List, [], ◌∷◌, ◌++◌, length}
use Rattle.std.proofs.Common.{refl, sym, ap, ◌∙◌, subst, inl, inr, arith}
use Rattle.std.specs.List.{list_any}
use Rattle.std.proofs.Math.Dec.{eqb}
use Rattle.std.proofs.lemmas.Bool.{true≢false, eq-eqb, ne_eqb}
use Rattle.std.proofs.lemmas.Bool.Decides.{eqb_tells}
use Rattle.std.proofs.lemmas.List.Folds.{list_any-append, list_any_at}
use Rattle.std.proofs.lemmas.Map.Keys.{IsDistinct-from_apart}
use Rattle.std.proofs.Math.ListN.{get_or}
use Rattle.std.proofs.lemmas.Map.Steps.{length-le_from_distinct_below, le-length_from_below}
use Rattle.bhs_model.proofs.StepLemmas.{by_cases}

abbrev pub is_in : ℕ → List ℕ → Bool
is_in q qs = list_any (eqb q) qs

pub in_head : (q : ℕ) (qs : List ℕ) → is_in q (q ∷ qs) ≡ true
in_head q qs = ap (λ (b : Bool). b || is_in q qs) (eq-eqb q q refl)

pub or_true : (b : Bool) → (b || true) ≡ true
or_true true = refl
or_true false = refl

pub in_tail : (q y : ℕ) (qs : List ℕ) → is_in q qs ≡ true → is_in q (y ∷ qs) ≡ true
in_tail q y qs h = ap (λ (b : Bool). eqb q y || b) h ∙ or_true (eqb q y)

pub in_split : (q y : ℕ) (qs : List ℕ) → is_in q (y ∷ qs) ≡ true → (q ≡ y) ⊎ (is_in q qs ≡ true)
in_split q y qs any = elim (eqb_tells q y) [
  | inl h ↦ inl h.1
  | inr h ↦ inr (sym (ap (λ (b : Bool). b || is_in q qs) h.0) ∙ any)
]

pub in_left : (q : ℕ) (xs ys : List ℕ) → is_in q xs ≡ true → is_in q (xs ++ ys) ≡ true
in_left q xs ys h = list_any-append (eqb q) xs ys ∙ ap (λ (b : Bool). b || is_in q ys) h

pub in_right : (q : ℕ) (xs ys : List ℕ) → is_in q ys ≡ true → is_in q (xs ++ ys) ≡ true
in_right q xs ys h =
    list_any-append (eqb q) xs ys ∙ ap (λ (b : Bool). is_in q xs || b) h ∙ or_true (is_in q xs)

pub in_either : (q : ℕ) (xs ys : List ℕ) → is_in q (xs ++ ys) ≡ true → (is_in q xs ≡ true) ⊎ (is_in q ys ≡ true)
in_either q xs ys any = by_cases (is_in q xs) ((is_in q xs ≡ true) ⊎ (is_in q ys ≡ true))
    (λ yes. inl yes)
    (λ none. inr (sym (ap (λ (b : Bool). b || is_in q ys) none) ∙ sym (list_any-append (eqb q) xs ys) ∙ any))

pub not_in : (q : ℕ) (qs : List ℕ) → (is_in q qs ≡ true → ⊥) → is_in q qs ≡ false
not_in q qs never = by_cases (is_in q qs) (is_in q qs ≡ false) (λ yes. absurd (never yes)) (λ none. none)

-- ---- each once

abbrev pub AreApart : List ℕ → Type 0
AreApart [] = Unit
AreApart (q ∷ qs) = (is_in q qs ≡ false) × AreApart qs

pub at_in : (qs : List ℕ) (k d : ℕ) → k < length qs → is_in (get_or qs k d) qs ≡ true
at_in qs k d below = list_any_at (eqb (get_or qs k d)) qs k d below (eq-eqb (get_or qs k d) (get_or qs k d) refl)

pub apart_at : (qs : List ℕ) (i j d : ℕ) → AreApart qs → i < j → j < length qs
    → eqb (get_or qs i d) (get_or qs j d) ≡ false
apart_at [] i j d apart less last = absurd (omega (arith, last))
apart_at (q ∷ qs) i zero d apart less last = absurd (omega (arith, less))
apart_at (q ∷ qs) zero (suc j) d apart less last = ne_eqb q (get_or qs j d) (λ same.
    true≢false (sym (subst (λ (k : ℕ). is_in k qs ≡ true) (sym same) (at_in qs j d (omega (arith, last)))) ∙ apart.0))
apart_at (q ∷ qs) (suc i) (suc j) d apart less last =
    apart_at qs i j d apart.1 (omega (arith, less)) (omega (arith, last))

pub few_apart : (qs : List ℕ) (n : ℕ) → AreApart qs → ((q : ℕ) → is_in q qs ≡ true → q < n) → length qs ≤ n
few_apart qs n apart below = length-le_from_distinct_below qs n
    (IsDistinct-from_apart eqb qs (λ i j d less last. apart_at qs i j d apart less last)) below

pub many_in : (qs : List ℕ) (n : ℕ) → ((q : ℕ) → q < n → is_in q qs ≡ true) → n ≤ length qs
many_in qs n all = le-length_from_below qs n all
