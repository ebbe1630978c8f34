-- A pass over the arrivals of a pass.
use Rattle.std.proofs.Common.{◌≡◌, ℕ, zero, suc, ◌+◌, ◌<◌, ◌≤◌, inl, inr, Option, Some, List, [], ◌∷◌, length, take}
use Rattle.std.proofs.Common.{map, refl, sym, ap, ◌∙◌, subst, arith, get_or}
use Rattle.std.specs.Prelude.{slice_get, option_map}
use Rattle.std.proofs.lemmas.Option.{slice_get-map, slice_get_read, slice_get_past}
use Rattle.bhs_world.proofs.ListLemmas.{lt_tells}
use Rattle.bhs_model.specs.declared.marks.Kept.{Kept}
use Rattle.bhs_match.specs.Matches.{arrivals}
use Rattle.bhs_shared_match.specs.Arrivals.{receipt_at}
use Rattle.bhs_shared_match.specs.Comparing.{IsFirstDifference}
use Rattle.bhs_shared_match.proofs.PlaceLemmas.{get_take, same_at_each}

-- Reading an index gives the stored entry.
said_at : {A : Type 0} (said : List A) (index : ℕ) (one : A) → index < length said → one ≡ get_or said index one
    → slice_get (map Some said) index ≡ Some (Some one)
said_at said index one inside is = slice_get-map (λ (x : _). Some x) said index
    ∙ ap (option_map (λ (x : _). Some x)) (slice_get_read said (length said) index one refl inside is)

-- extending both lists preserves their agreement
one_more : {A : Type 0} (logged : List (Option A)) (said : List A) (index : ℕ) (one : A)
    → ((k : ℕ) → k < index → slice_get logged k ≡ slice_get (map Some said) k) →
    index < length said → one ≡ get_or said index one → slice_get logged index ≡ Some (Some one) → (k : ℕ)
    → k < index + 1 → slice_get logged k ≡ slice_get (map Some said) k
one_more logged said index one before inside is there k below = elim (lt_tells k index) [
  | inl h ↦ before k h.1
  | inr h ↦
      let here : k ≡ index = omega (arith, h.1, below) in
      subst (λ (k : ℕ). slice_get logged k ≡ slice_get (map Some said) k) (sym here)
      (there ∙ sym (said_at said index one inside is))
]

-- this one is not
strays : {A : Type 0} (logged : List (Option A)) (said : List A) (index : ℕ) (one : A)
    → ((k : ℕ) → k < index → slice_get logged k ≡ slice_get (map Some said) k) →
    index < length said → one ≡ get_or said index one → (slice_get logged index ≡ Some (Some one) → ⊥)
    → IsFirstDifference (take (length said) logged) (map Some said) index
strays logged said index one before inside is apart = record {
  there = λ same. apart (sym (get_take (length said) logged index inside) ∙ same ∙ said_at said index one inside is);
  before = λ k below. get_take (length said) logged k (omega (arith, below, inside)) ∙ before k below;
}

length_map : {A B : Type 0} (f : A → B) (xs : List A) → length (map f xs) ≡ length xs
length_map f [] = refl
length_map f (x ∷ xs) = ap suc (length_map f xs)

length_take_most : {A : Type 0} (n : ℕ) (xs : List A) → length (take n xs) ≤ n
length_take_most zero xs = omega arith
length_take_most (suc n) [] = omega arith
length_take_most (suc n) (x ∷ xs) = let rest : length (take n xs) ≤ n = length_take_most n xs in omega arith

-- all are
all_there : {A : Type 0} (logged : List (Option A)) (said : List A) (index : ℕ)
    → ((k : ℕ) → k < index → slice_get logged k ≡ slice_get (map Some said) k) →
    length said ≤ index → take (length said) logged ≡ map Some said
all_there logged said index before past = same_at_each (take (length said) logged) (map Some said)
    (λ k. elim (lt_tells k (length said)) [
      | inl h ↦ get_take (length said) logged k h.1 ∙ before k (omega (arith, h.1, past))
      | inr h ↦ slice_get_past (take (length said) logged) k (omega (arith, h.1, length_take_most (length said) logged))
          ∙ sym (slice_get_past (map Some said) k (omega (arith, h.1, length_map (λ (x : _). Some x) said)))
    ])

-- the same in the words of the loop: the arrivals are read as items, and the log's by their places
pub one_more_in : {A : Type 0} (logged : List (Option A)) (said items : List A) (index : ℕ) (one : A) → items ≡ said
    → ((k : ℕ) → k < index → slice_get logged k ≡ slice_get (map Some said) k) →
    index < length items → one ≡ get_or items index one → slice_get logged index ≡ Some (Some one) → (k : ℕ)
    → k < index + 1 → slice_get logged k ≡ slice_get (map Some said) k
one_more_in {A} logged said items index one are before inside is there =
    one_more logged said index one before (subst (λ (xs : List A). index < length xs) are inside)
    (subst (λ (xs : List A). one ≡ get_or xs index one) are is) there

pub strays_in : {A : Type 0} (logged target : List (Option A)) (said items : List A) (index : ℕ) (one : A)
    → logged ≡ target → items ≡ said → ((k : ℕ) → k < index → slice_get logged k ≡ slice_get (map Some said) k) →
    index < length items → one ≡ get_or items index one → (slice_get logged index ≡ Some (Some one) → ⊥)
    → IsFirstDifference (take (length said) target) (map Some said) index
strays_in {A} logged target said items index one same are before inside is apart =
    subst (λ (logged : List (Option A)). IsFirstDifference (take (length said) logged) (map Some said) index) same
    (strays logged said index one before (subst (λ (xs : List A). index < length xs) are inside)
    (subst (λ (xs : List A). one ≡ get_or xs index one) are is) apart)

pub all_in : {A : Type 0} (logged target : List (Option A)) (said items : List A) (index : ℕ) → logged ≡ target
    → items ≡ said → ((k : ℕ) → k < index → slice_get logged k ≡ slice_get (map Some said) k) →
    length items ≤ index → take (length said) target ≡ map Some said
all_in {A} logged target said items index same are before past =
    subst (λ (logged : List (Option A)). take (length said) logged ≡ map Some said) same
    (all_there logged said index before (subst (λ (xs : List A). length xs ≤ index) are past))

-- an agent's arrivals as the loop reads them
pub read_as : (log log' : List Kept) (places : List ℕ) (agent agent' : ℕ) → log ≡ log' → places ≡ arrivals agent log'
    → agent ≡ agent' → map (receipt_at log) places ≡ map (receipt_at log') (arrivals agent' log')
read_as log log' places agent agent' same are is =
    ap (λ (log : List Kept). map (receipt_at log) places) same
    ∙ ap (map (receipt_at log')) (are ∙ ap (λ (agent : ℕ). arrivals agent log') is)
