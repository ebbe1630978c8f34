-- The least place at which anything differs, found place by place.
use Rattle.std.proofs.Common.{◌≡◌, ◌≢◌, ℕ, ◌≤◌, ◌⊎◌, inl, inr, Option, Some, None, List, [], ◌∷◌, sym, ◌∙◌, subst}
use Rattle.std.proofs.Common.{arith}
use Rattle.std.specs.Prelude.{slice_get}
use Rattle.std.specs.List.{AllByRecursion}
use Rattle.std.proofs.lemmas.Bool.{cond-true, cond-false}
use Rattle.bhs_shared_match.specs.Settling.{Compared, IsBefore, DiffersAt, IsLeast, lesser}
use Rattle.bhs_shared_match.proofs.PlaceLemmas.{same_at_each}
use Rattle.bhs_shared_match.proofs.LeastLemmas.{Precedes, Follows, precedes_tells, all_map}

-- Both agree at this index if it precedes the difference that was found.
abbrev pub AgreesAt : {A : Type 0} → Option (ℕ × ℕ) → Compared A → (index : ℕ) → Type 0
AgreesAt None one index = slice_get one.logged index ≡ slice_get one.said index
AgreesAt (Some found) one index = Precedes one.agent index found → slice_get one.logged index ≡ slice_get one.said index

-- Some comparison of this agent differs at this index.
abbrev pub AnyDiffers : {A : Type 0} → (agent index : ℕ) → List (Compared A) → Type 0
AnyDiffers agent index [] = ⊥
AnyDiffers agent index (one ∷ others) = ((one.agent ≡ agent) × (slice_get one.logged index ≢ slice_get one.said index))
    ⊎ AnyDiffers agent index others

-- what was found differs
abbrev pub IsFound : {A : Type 0} → Option (ℕ × ℕ) → List (Compared A) → Type 0
IsFound None all = Unit {0}
IsFound (Some found) all = AnyDiffers found.0 found.1 all

through : (agent index : ℕ) (middle last : ℕ × ℕ) → Precedes agent index middle → Precedes middle.0 middle.1 last
    → Precedes agent index last
unfolding Precedes
through agent index middle last one two = elim one [
  | inl h ↦ elim two [ inl g ↦ inl (omega (arith, h, g)) | inr g ↦ inl (omega (arith, h, g.0)) ]
  | inr h ↦ elim two [ inl g ↦ inl (omega (arith, h.0, g)) | inr g ↦ inr (h.0 ∙ g.0, omega (arith, h.1, g.1)) ]
]

not_itself : (agent index k : ℕ) → index ≤ k → Precedes agent k (agent, index) → ⊥
unfolding Precedes
not_itself agent index k past before = elim before [ inl h ↦ omega (arith, h) | inr h ↦ omega (arith, h.1, past) ]

not_both : (agent index k : ℕ) (other : ℕ × ℕ) → index ≤ k → Precedes agent k other → Follows agent index other → ⊥
unfolding Precedes Follows
not_both agent index k other past before after = elim before [
  | inl h ↦ elim after [ inl g ↦ omega (arith, h, g) | inr g ↦ omega (arith, h, g.0) ]
  | inr h ↦ elim after [ inl g ↦ omega (arith, h.0, g) | inr g ↦ omega (arith, h.1, g.1, past) ]
]

-- Equal entries agree.
pub same_agrees : {A : Type 0} (best : Option (ℕ × ℕ)) (one : Compared A) (k : ℕ)
    → slice_get one.logged k ≡ slice_get one.said k → AgreesAt best one k
same_agrees None one k same = same
same_agrees (Some best) one k same = λ before. same

-- what agreed still does where something is found
pub still_agrees : {A : Type 0} (best : Option (ℕ × ℕ)) (agent : ℕ) (index : Option ℕ) (one : Compared A) (k : ℕ)
    → AgreesAt best one k → AgreesAt (lesser best agent index) one k
still_agrees None agent None one k same = same
still_agrees None agent (Some index) one k same = λ before. same
still_agrees (Some best) agent None one k same = same
still_agrees (Some best) agent (Some index) one k same = elim (precedes_tells agent index best) [
  | inl h ↦ subst (λ best. AgreesAt best one k) (sym (cond-true _ _ _ h.0))
      (λ before. same (through one.agent k (agent, index) best before h.1))
  | inr h ↦ subst (λ best. AgreesAt best one k) (sym (cond-false _ _ _ h.0)) same
]

-- Agreement is claimed only before the difference that was found.
pub found_agrees : {A : Type 0} (best : Option (ℕ × ℕ)) (agent index : ℕ) (one : Compared A) (k : ℕ) → one.agent ≡ agent
    → index ≤ k → AgreesAt (lesser best agent (Some index)) one k
found_agrees None agent index one k its past =
    λ before. absurd (not_itself agent index k past (subst (λ (a : ℕ). Precedes a k (agent, index)) its before))
found_agrees (Some best) agent index one k its past = elim (precedes_tells agent index best) [
  | inl h ↦ subst (λ best. AgreesAt best one k) (sym (cond-true _ _ _ h.0))
      (λ before. absurd (not_itself agent index k past (subst (λ (a : ℕ). Precedes a k (agent, index)) its before)))
  | inr h ↦ subst (λ best. AgreesAt best one k) (sym (cond-false _ _ _ h.0))
      (λ before. absurd (not_both agent index k best past (subst (λ (a : ℕ). Precedes a k best) its before) h.1))
]

-- what is found differs
pub found_more : {A : Type 0} (best : Option (ℕ × ℕ)) (agent index : ℕ) (all : List (Compared A)) → IsFound best all
    → AnyDiffers agent index all → IsFound (lesser best agent (Some index)) all
found_more None agent index all found differs = differs
found_more (Some best) agent index all found differs = elim (precedes_tells agent index best) [
  | inl h ↦ subst (λ best. IsFound best all) (sym (cond-true _ _ _ h.0)) differs
  | inr h ↦ subst (λ best. IsFound best all) (sym (cond-false _ _ _ h.0)) found
]

first_there : {A : Type 0} (found : ℕ × ℕ) (all : List (Compared A))
    → AllByRecursion (λ one. (k : ℕ) → AgreesAt (Some found) one k) all → AnyDiffers found.0 found.1 all
    → DiffersAt found.0 found.1 all
unfolding Precedes
first_there found [] agree differs = absurd differs
first_there found (one ∷ others) agree differs = elim differs [
  | inl h ↦ inl (h.0, record { there = h.1; before = λ k below. agree.0 k (inr (h.0, below)) })
  | inr h ↦ inr (first_there found others agree.1 h)
]

-- After all comparisons, the difference that was found is the least.
pub least_found : {A : Type 0} (all : List (Compared A)) (best : Option (ℕ × ℕ))
    → AllByRecursion (λ one. (k : ℕ) → AgreesAt best one k) all → IsFound best all → IsLeast all best
unfolding Precedes
least_found all None agree found =
    all_map (λ one. (k : ℕ) → AgreesAt None one k) (λ one. one.logged ≡ one.said) all
    (λ one agrees. same_at_each one.logged one.said agrees) agree
least_found all (Some found) agree differs = record {
  there = first_there found all agree differs;
  before = all_map (λ one. (k : ℕ) → AgreesAt (Some found) one k) (IsBefore found.0 found.1) all (λ one agrees. record {
    lesser = λ below. same_at_each one.logged one.said (λ k. agrees k (inl below));
    same = λ is k below. agrees k (inr (is, below));
  }) agree;
}
