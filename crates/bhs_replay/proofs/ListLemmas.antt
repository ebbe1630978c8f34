-- Predicates on each item of a list, and on each pair of items.
use Rattle.std.proofs.Common.{◌≡◌, ℕ, zero, suc, ◌+◌, ◌<◌, ◌≤◌, Bool, true, false, cond, length, List, [], ◌∷◌, ◌++◌}
use Rattle.std.proofs.Common.{refl, arith}
use Rattle.std.specs.Prelude.{map, filter, ⊤, slice_index_or}
use Rattle.std.specs.List.{range_with_len}
use Rattle.bhs_replay.proofs.HeadReads.{AllOf}

-- ---- each of a list

module _ {A : Type 0} (P Q : A → Type 0) where
  pub all_weaker : ((x : A) → P x → Q x) → (xs : List A) → AllOf P xs → AllOf Q xs
  all_weaker weaker [] all = tt
  all_weaker weaker (x ∷ xs) all = (weaker x all.0, all_weaker weaker xs all.1)

  kept_all : (b : Bool) (x : A) (rest : List A) → (b ≡ true → Q x) → AllOf Q rest → AllOf Q (cond b (x ∷ rest) rest)
  kept_all true x rest here others = (here refl, others)
  kept_all false x rest here others = others

  pub all_kept : (test : A → Bool) → ((x : A) → P x → test x ≡ true → Q x) → (xs : List A) → AllOf P xs
      → AllOf Q (filter test xs)
  all_kept test passes [] all = tt
  all_kept test passes (x ∷ xs) all = kept_all (test x) x (filter test xs) (passes x all.0)
      (all_kept test passes xs all.1)

module _ {A : Type 0} (P : A → Type 0) where
  pub all_append : (xs ys : List A) → AllOf P xs → AllOf P ys → AllOf P (xs ++ ys)
  all_append [] ys first second = second
  all_append (x ∷ xs) ys first second = (first.0, all_append xs ys first.1 second)

  pub all_mapped : {B : Type 0} (f : B → A) (xs : List B) → AllOf (λ x. P (f x)) xs → AllOf P (map f xs)
  all_mapped f [] all = tt
  all_mapped f (x ∷ xs) all = (all.0, all_mapped f xs all.1)

  pub all_at : (xs : List A) (place : ℕ) (other : A) → place < length xs → AllOf P xs
      → P (slice_index_or xs place other)
  all_at [] place other within all = absurd (omega arith)
  all_at (x ∷ xs) zero other within all = all.0
  all_at (x ∷ xs) (suc place) other within all = all_at xs place other (omega arith) all.1

  pub by_places : (xs : List A) → ((place : ℕ) (other : A) → place < length xs → P (slice_index_or xs place other))
      → AllOf P xs
  by_places [] each = tt
  by_places (x ∷ xs) each = (
    each 0 x (omega arith),
    by_places xs
        (λ place other within. each (suc place) other (omega arith)),
  )

-- ---- predicates on pairs of an item and a later item

module _ {A : Type 0} (R : A → A → Type 0) where
  abbrev pub EachTwo : List A → Type 0
  EachTwo [] = ⊤
  EachTwo (x ∷ xs) = AllOf (R x) xs × EachTwo xs

  pub two_append : (xs ys : List A) → EachTwo xs → EachTwo ys → AllOf (λ x. AllOf (R x) ys) xs → EachTwo (xs ++ ys)
  two_append [] ys first second across = second
  two_append (x ∷ xs) ys first second across =
      (all_append (R x) xs ys first.0 across.0, two_append xs ys first.1 second across.1)

  kept_two : (b : Bool) (x : A) (rest : List A) → AllOf (R x) rest → EachTwo rest → EachTwo (cond b (x ∷ rest) rest)
  kept_two true x rest here others = (here, others)
  kept_two false x rest here others = others

  pub two_kept : (test : A → Bool) (xs : List A) → EachTwo xs → EachTwo (filter test xs)
  two_kept test [] two = tt
  two_kept test (x ∷ xs) two = kept_two (test x) x (filter test xs)
      (all_kept (R x) (R x) test (λ y is passes. is) xs two.0) (two_kept test xs two.1)

  pub two_at : (xs : List A) (early late : ℕ) (other : A) → early < late → late < length xs → EachTwo xs
      → R (slice_index_or xs early other) (slice_index_or xs late other)
  two_at [] early late other less within two = absurd (omega arith)
  two_at (x ∷ xs) early zero other less within two = absurd (omega arith)
  two_at (x ∷ xs) zero (suc late) other less within two = all_at (R x) xs late other (omega arith) two.0
  two_at (x ∷ xs) (suc early) (suc late) other less within two =
      two_at xs early late other (omega arith) (omega arith) two.1

pub two_mapped : {A B : Type 0} (R : A → A → Type 0) (f : B → A) (xs : List B) → EachTwo (λ a b. R (f a) (f b)) xs
    → EachTwo R (map f xs)
two_mapped R f [] two = tt
two_mapped R f (x ∷ xs) two = (all_mapped (R (f x)) f xs two.0, two_mapped R f xs two.1)

module _ {A : Type 0} (P : A → Type 0) (R Q : A → A → Type 0) (step : (a b : A) → P a → P b → R a b → Q a b) where
  all_here : (a : A) → P a → (xs : List A) → AllOf P xs → AllOf (R a) xs → AllOf (Q a) xs
  all_here a is [] all here = tt
  all_here a is (x ∷ xs) all here = (step a x is all.0 here.0, all_here a is xs all.1 here.1)

  pub two_weaker : (xs : List A) → AllOf P xs → EachTwo R xs → EachTwo Q xs
  two_weaker [] all two = tt
  two_weaker (x ∷ xs) all two = (all_here x all.0 xs all.1 two.0, two_weaker xs all.1 two.1)

-- ---- numbers in order

abbrev pub IsFrom : (start limit : ℕ) → ℕ → Type 0
IsFrom start limit i = (start ≤ i) × (i < limit)

pub range_all : (start count limit : ℕ) → start + count ≤ limit
    → AllOf (IsFrom start limit) (range_with_len start count)
range_all start zero limit within = tt
range_all start (suc count) limit within = (
  (omega arith, omega arith),
  all_weaker (IsFrom (start + 1) limit) (IsFrom start limit)
      (λ i is. (let above = is.0 in omega arith, is.1)) (range_with_len (start + 1) count)
      (range_all (start + 1) count limit (omega arith)),
)

pub range_two : (start count : ℕ) → EachTwo (λ i j. i < j) (range_with_len start count)
range_two start zero = tt
range_two start (suc count) = (
  all_weaker (IsFrom (start + 1) ((start + 1) + count)) (λ i. start < i) (λ i is. let above = is.0 in omega arith)
      (range_with_len (start + 1) count) (range_all (start + 1) count ((start + 1) + count) (omega arith)),
  range_two
      (start + 1) count,
)
