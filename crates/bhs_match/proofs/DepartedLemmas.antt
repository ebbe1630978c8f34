-- Each agent stands at most once in the list of those that departed.
use Rattle.std.proofs.Common.{◌≡◌, ℕ, ◌<◌, ◌≤◌, Bool, true, false, not, ◌||◌, List, [], ◌∷◌, ◌++◌}
use Rattle.std.proofs.Common.{length, refl, sym, ◌∙◌, inl, inr, arith, ◌==◌, if◌then◌else◌}
use Rattle.std.specs.Prelude.{nat_eq}
use Rattle.std.specs.List.{IsDistinct, list_any, filter, AllByRecursion}
use Rattle.std.specs.Cmp.{nat_eq_equiv}
use Rattle.std.proofs.lemmas.Bool.{eqb-true, cond_both}
use Rattle.std.proofs.lemmas.Bool.Decides.{eqb_tells}
use Rattle.std.proofs.lemmas.List.Folds.{list_any-append}
use Rattle.std.proofs.lemmas.Map.Keys.{IsDistinct-push}
use Rattle.std.proofs.lemmas.Map.Steps.{length-le_from_distinct_below}
use Rattle.bhs_model.specs.Runs.{Position, Before, At, Bound, After, departed_after}

-- agents below a number, each at most once
pub record AreOnce (agents : ℕ) (list : List ℕ) : Type 0 where
  pub distinct : IsDistinct nat_eq list
  pub below : (agent : ℕ) → list_any (nat_eq agent) list ≡ true → agent < agents

all_filter : (P : ℕ → Type 0) (test : ℕ → Bool) (xs : List ℕ) → AllByRecursion P xs → AllByRecursion P (filter test xs)
all_filter P test [] all = tt
all_filter P test (x ∷ xs) all =
    cond_both (test x) (x ∷ filter test xs) (filter test xs) (λ (list : List ℕ). AllByRecursion P list)
    (λ passes. (all.0, all_filter P test xs all.1)) (λ fails. all_filter P test xs all.1)

distinct_filter : (test : ℕ → Bool) (xs : List ℕ) → IsDistinct nat_eq xs → IsDistinct nat_eq (filter test xs)
unfolding IsDistinct
distinct_filter test [] distinct = tt
distinct_filter test (x ∷ xs) distinct =
    cond_both (test x) (x ∷ filter test xs) (filter test xs) (λ (list : List ℕ). IsDistinct nat_eq list)
    (λ passes. (all_filter _ test xs distinct.0, distinct_filter test xs distinct.1))
    (λ fails. distinct_filter test xs distinct.1)

-- Every member of a filtered list is a member of the list.
any_filter : (agent : ℕ) (test : ℕ → Bool) (xs : List ℕ) → list_any (nat_eq agent) (filter test xs) ≡ true
    → list_any (nat_eq agent) xs ≡ true
any_filter agent test [] found = found
any_filter agent test (x ∷ xs) found =
    by_test (nat_eq agent x) (test x) (list_any (nat_eq agent) (filter test xs)) (list_any (nat_eq agent) xs)
    (any_filter agent test xs)
    (cond_both (test x) (x ∷ filter test xs) (filter test xs)
    (λ (list : List ℕ). list_any (nat_eq agent) list ≡ true
    → (if test x then (nat_eq agent x || list_any (nat_eq agent) (filter test xs)) else list_any (nat_eq agent)
    (filter test xs)) ≡ true)
    (λ passes h. rw passes h) (λ fails h. rw fails h) found)
  where
    by_test : (same passes kept found : Bool) → (kept ≡ true → found ≡ true)
        → (if passes then (same || kept) else kept) ≡ true → (same || found) ≡ true
    by_test true passes kept found more h = refl
    by_test false true kept found more h = more h
    by_test false false kept found more h = more h

-- The removed agent is not a member of the remaining list.
none_left : (agent : ℕ) (xs : List ℕ) → list_any (nat_eq agent) (filter (λ other. not (other == agent)) xs) ≡ false
none_left agent [] = refl
none_left agent (x ∷ xs) = elim (eqb_tells x agent) [
  | inl h ↦ rw h.0 (none_left agent xs)
  | inr h ↦ rw h.0 (elim (eqb_tells agent x) [
    | inl g ↦ absurd (h.1 (sym g.1))
    | inr g ↦ rw g.0 (none_left agent xs)
  ])
]

pub once_filter : (agents : ℕ) (test : ℕ → Bool) (xs : List ℕ) → AreOnce agents xs → AreOnce agents (filter test xs)
once_filter agents test xs once = record {
  distinct = distinct_filter test xs once.distinct;
  below = λ agent found. once.below agent (any_filter agent test xs found);
}

or_cases : (b c : Bool) (P : Type 0) → (b ≡ true → P) → (c ≡ true → P) → (b || c) ≡ true → P
or_cases true c P left right h = left refl
or_cases false c P left right h = right h

once_last : (agents agent : ℕ) (xs : List ℕ) → agent < agents → AreOnce agents xs
    → AreOnce agents (filter (λ other. not (other == agent)) xs ++ agent ∷ [])
once_last agents agent xs within once =
    let others : AreOnce agents (filter (λ other. not (other == agent)) xs) =
    once_filter agents (λ other. not (other == agent)) xs once in
    record {
      distinct = IsDistinct-push nat_eq_equiv _ agent others.distinct (none_left agent xs);
      below = λ one found.
          or_cases (list_any (nat_eq one) (filter (λ other. not (other == agent)) xs))
          (list_any (nat_eq one) (agent ∷ [])) (one < agents)
          (others.below one)
          (λ last. or_cases (nat_eq one agent) false (one < agents)
          (λ same. let e : one ≡ agent = eqb-true one agent same in omega arith)
          (λ none. absurd (no_way none)) last)
          (sym (list_any-append (nat_eq one) (filter (λ other. not (other == agent)) xs) (agent ∷ [])) ∙ found);
    }
  where
    no_way : false ≡ true → ⊥
    no_way h = cc

pub once_after : (agents agent : ℕ) (xs : List ℕ) (old new : Position) → agent < agents → AreOnce agents xs
    → AreOnce agents (departed_after xs agent old new)
once_after agents agent xs Before new within once = once
once_after agents agent xs (Bound node port) new within once = once
once_after agents agent xs After new within once = once
once_after agents agent xs (At node came) Before within once = once
once_after agents agent xs (At node came) (At there by) within once = once
once_after agents agent xs (At node came) (Bound from port) within once = once_last agents agent xs within once
once_after agents agent xs (At node came) After within once = once

pub once_few : (agents : ℕ) (xs : List ℕ) → AreOnce agents xs → length xs ≤ agents
once_few agents xs once = length-le_from_distinct_below xs agents once.distinct once.below

pub once_none : (agents : ℕ) → AreOnce agents []
unfolding IsDistinct
once_none agents = record { distinct = tt; below = λ agent found. absurd (no_way found) }
  where
    no_way : false ≡ true → ⊥
    no_way h = cc
