-- Replays that are written one after the other, and matches that have ended, for reading alone.
use Rattle.std.proofs.Common.{◌≡◌, refl, sym, subst, ap, ℕ, ◌==◌, ◌+◌, ◌<◌, ◌≤◌, List, ◌∷◌, length, drop, get_or}
use Rattle.std.proofs.Common.{◌∙◌, ◌⊎◌, inl, inr, eqb-true, Bool, true, false, true≢false, if◌then◌else◌}
use Rattle.std.proofs.Common.{Result, Ok, Err}
use Rattle.std.proofs.lemmas.List.{drop_more}
use Rattle.std.proofs.Math.ListN.{drop_of_length-le}
use Rattle.std.specs.List.{AllByRecursion}
use Rattle.bhs_net.proofs.Places.{below_or_at}
use Rattle.bhs_match.specs.Matches.{Play}
use Rattle.bhs_cli.specs.Filing.{first_status}
use Rattle.bhs_cli.specs.declared.reporting.statuses.TheConstants.{DONE}

-- A match that was sealed is the same match.
pub sealed_is : (is_closed : Bool) (play sealed : Play)
    → ◌≡◌ {A = Result Play Play} (Ok sealed) (if is_closed then Ok play else Err play) → sealed ≡ play
sealed_is true play sealed is = cc
sealed_is false play sealed is = absurd cc

-- one thing more of many that were to be done
module _ {A : Type 0} (Holds : A → Type 0) (all : List A) (number : ℕ) where
  pub one_more : (one : A) → number < length all → one ≡ get_or all number one
      → Holds one → AllByRecursion Holds (drop (number + 1) all) → AllByRecursion Holds (drop number all)
  one_more one lt is holds others =
      let rest = drop (number + 1) all in
      let e : drop number all ≡ one ∷ rest = drop_more all number one lt ∙ ap (λ x. x ∷ rest) (sym is) in
      subst (AllByRecursion Holds) (sym e) (holds, others)

  pub no_more : length all ≤ number → AllByRecursion Holds (drop number all)
  no_more le = subst (AllByRecursion Holds) (sym (drop_of_length-le all le)) tt

-- Induction step: a property of all numbers below a bound, and of the bound, holds below its successor.
module _ (Holds : ℕ → Type 0) (number : ℕ) where
  pub below_next : ((other : ℕ) → other < number → Holds other) → Holds number
      → (other : ℕ) → other < number + 1 → Holds other
  below_next below here other lt = elim (below_or_at other number lt) [
    | inl less ↦ below other less
    | inr is ↦ subst Holds (sym is) here
  ]

-- Two tried tasks: the combined status is `DONE` exactly if both statuses are `DONE`; otherwise it equals one of the
-- two.
module _ (first second : ℕ) where
  both_by : (is_done : Bool) → (first == DONE) ≡ is_done → (if is_done then second else first) ≡ DONE
      → (first ≡ DONE) × (second ≡ DONE)
  both_by true done is = (eqb-true first DONE done, is)
  both_by false undone is = absurd (true≢false (subst (λ (x : ℕ). (x == DONE) ≡ false) is undone))

  pub both_done : first_status first second ≡ DONE → (first ≡ DONE) × (second ≡ DONE)
  both_done = both_by (first == DONE) refl

  either_by : (is_done : Bool) → ((if is_done then second else first) ≡ first)
      ⊎ ((if is_done then second else first) ≡ second)
  either_by true = inr refl
  either_by false = inl refl

  pub is_either : (first_status first second ≡ first) ⊎ (first_status first second ≡ second)
  is_either = either_by (first == DONE)
