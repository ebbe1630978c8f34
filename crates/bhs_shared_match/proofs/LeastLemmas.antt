-- The least difference, found by going on.
use Rattle.std.proofs.Common.{◌≡◌, ℕ, ◌<◌, ◌≤◌, true, false, ◌⊎◌, inl, inr, Option, Some, None, List, [], ◌∷◌, ◌++◌}
use Rattle.std.proofs.Common.{refl, sym, ap, ◌∙◌, subst, arith, nat_lt, ◌==◌, if◌then◌else◌}
use Rattle.std.specs.Prelude.{slice_get, MatchOption}
use Rattle.std.specs.List.{AllByRecursion}
use Rattle.std.proofs.lemmas.Bool.{cond-true, cond-false}
use Rattle.std.proofs.lemmas.Bool.Decides.{eqb_tells}
use Rattle.bhs_world.proofs.ListLemmas.{lt_tells}
use Rattle.bhs_world.proofs.GrowthLemmas.{all_append}
use Rattle.bhs_shared_match.specs.Comparing.{IsFirstDifference}
use Rattle.bhs_shared_match.specs.Settling.{Compared, IsBefore, DiffersAt, IsLeast, precedes, lesser}

pub all_map : {A : Type 0} (P Q : A → Type 0) (xs : List A) → ((x : A) → P x → Q x) → AllByRecursion P xs
    → AllByRecursion Q xs
all_map P Q [] f all = tt
all_map P Q (x ∷ xs) f all = (f x all.0, all_map P Q xs f all.1)

differs_left : {A : Type 0} (agent index : ℕ) (all : List (Compared A)) (one : Compared A) → DiffersAt agent index all
    → DiffersAt agent index (all ++ one ∷ [])
differs_left agent index [] one at = absurd at
differs_left agent index (first ∷ all) one at =
    elim at [ inl h ↦ inl h | inr h ↦ inr (differs_left agent index all one h) ]

differs_right : {A : Type 0} (agent index : ℕ) (all : List (Compared A)) (one : Compared A) → one.agent ≡ agent
    → IsFirstDifference one.logged one.said index → DiffersAt agent index (all ++ one ∷ [])
differs_right agent index [] one is at = inl (is, at)
differs_right agent index (first ∷ all) one is at = inr (differs_right agent index all one is at)

-- what comes first, in words
unfoldable pub Precedes : (agent index : ℕ) → ℕ × ℕ → Type 0
Precedes agent index other = (agent < other.0) ⊎ ((agent ≡ other.0) × (index < other.1))

unfoldable pub Follows : (agent index : ℕ) → ℕ × ℕ → Type 0
Follows agent index other = (other.0 < agent) ⊎ ((agent ≡ other.0) × (other.1 ≤ index))

pub precedes_tells : (agent index : ℕ) (other : ℕ × ℕ)
    → ((precedes agent index other ≡ true) × Precedes agent index other)
    ⊎ ((precedes agent index other ≡ false) × Follows agent index other)
unfolding Precedes Follows
precedes_tells agent index other = elim (lt_tells agent other.0) [
  | inl h ↦ inl (
    cond-true (nat_lt agent other.0) true
        (if agent == other.0 then nat_lt index other.1 else false) h.0,
    inl h.1,
  )
  | inr h ↦ elim (eqb_tells agent other.0) [
    | inl e ↦ elim (lt_tells index other.1) [
      | inl l ↦ inl (
        cond-false (nat_lt agent other.0) true (if agent == other.0 then nat_lt index other.1 else false)
            h.0 ∙ cond-true (agent == other.0) (nat_lt index other.1) false e.0 ∙ l.0,
        inr (e.1, l.1),
      )
      | inr l ↦ inr (
        cond-false (nat_lt agent other.0) true (if agent == other.0 then nat_lt index other.1 else false)
            h.0 ∙ cond-true (agent == other.0) (nat_lt index other.1) false e.0 ∙ l.0,
        inr (e.1, l.1),
      )
    ]
    | inr e ↦ inr (
      cond-false (nat_lt agent other.0) true (if agent == other.0 then nat_lt index other.1 else false) h.0
          ∙ cond-false (agent == other.0) (nat_lt index other.1) false e.0,
      inl (above agent other.0 h.1 e.1),
    )
  ]
]
  where
    above : (a b : ℕ) → b ≤ a → (a ≡ b → ⊥) → b < a
    above a b le other = elim (lt_tells b a) [ inl h ↦ h.1 | inr h ↦ absurd (other (omega (arith, h.1, le))) ]

agreed_before : {A : Type 0} (agent index : ℕ) (one : Compared A) → one.logged ≡ one.said → IsBefore agent index one
agreed_before agent index one same = record {
  lesser = λ below. same;
  same = λ is k below.
      ap (λ (xs : List _). slice_get xs k) same;
}

first_before : {A : Type 0} (index : ℕ) (one : Compared A) → IsFirstDifference one.logged one.said index
    → IsBefore one.agent index one
first_before index one at = record {
  lesser = λ below. absurd (omega (arith, below));
  same = λ is k below.
      at.before k below;
}

earlier_before : {A : Type 0} (agent index : ℕ) (best : ℕ × ℕ) (one : Compared A) → Precedes agent index best
    → IsBefore best.0 best.1 one → IsBefore agent index one
unfolding Precedes
earlier_before agent index best one earlier before = elim earlier [
  | inl h ↦ record {
    lesser = λ below. before.lesser (omega (arith, below, h));
    same = λ is k below. ap (λ (xs : List _). slice_get xs k) (before.lesser (omega (arith, is, h)));
  }
  | inr h ↦ record {
    lesser = λ below. before.lesser (omega (arith, below, h.0));
    same = λ is k below. before.same (is ∙ h.0) k (omega (arith, below, h.1));
  }
]

later_before : {A : Type 0} (index : ℕ) (best : ℕ × ℕ) (one : Compared A) → Follows one.agent index best
    → IsFirstDifference one.logged one.said index → IsBefore best.0 best.1 one
unfolding Follows
later_before index best one later at = elim later [
  | inl h ↦ record {
    lesser = λ below. absurd (omega (arith, below, h));
    same = λ is k below. absurd
        (omega (arith, is, h));
  }
  | inr h ↦ record {
    lesser = λ below. absurd (omega (arith, below, h.0));
    same = λ is k below. at.before k
        (omega (arith, below, h.1));
  }
]

-- one more is compared
pub least_more : {A : Type 0} (all : List (Compared A)) (one : Compared A) (best : Option (ℕ × ℕ)) (index : Option ℕ)
    → IsLeast all best →
    MatchOption index (one.logged ≡ one.said) (λ index. IsFirstDifference one.logged one.said index)
    → IsLeast (all ++ one ∷ []) (lesser best one.agent index)
least_more all one None None least same = all_append (λ one. one.logged ≡ one.said) all one least same
least_more all one None (Some index) least at = record {
  there = differs_right one.agent index all one refl at;
  before = all_append (IsBefore one.agent index) all one
      (all_map (λ one. one.logged ≡ one.said) (IsBefore one.agent index) all
      (λ other same. agreed_before one.agent index other same) least) (first_before index one at);
}
least_more all one (Some best) None least same = record {
  there = differs_left best.0 best.1 all one least.there;
  before = all_append (IsBefore best.0 best.1) all one least.before (agreed_before best.0 best.1 one same);
}
least_more all one (Some best) (Some index) least at = elim (precedes_tells one.agent index best) [
  | inl h ↦
      let now : lesser (Some best) one.agent (Some index) ≡ Some (one.agent, index) = cond-true _ _ _ h.0 in
      subst (IsLeast (all ++ one ∷ [])) (sym now) (record {
        there = differs_right one.agent index all one refl at;
        before = all_append (IsBefore one.agent index) all one
            (all_map (IsBefore best.0 best.1) (IsBefore one.agent index) all
            (λ other before. earlier_before one.agent index best other h.1 before) least.before)
            (first_before index one at);
      })
  | inr h ↦
      let now : lesser (Some best) one.agent (Some index) ≡ Some best = cond-false _ _ _ h.0 in
      subst (IsLeast (all ++ one ∷ [])) (sym now) (record {
        there = differs_left best.0 best.1 all one least.there;
        before = all_append (IsBefore best.0 best.1) all one least.before (later_before index best one h.1 at);
      })
]
