-- The passes of a match, one more at a time.
use Rattle.std.proofs.Common.{◌≡◌, ℕ, zero, suc, ◌+◌, ◌⊎◌, inl, inr, Option, Some, List, [], ◌∷◌, ◌++◌, length, refl}
use Rattle.std.proofs.Common.{sym, ap, ◌∙◌, length-append}
use Rattle.std.specs.Prelude.{map, slice_get}
use Rattle.std.specs.List.{range_with_len}
use Rattle.bhs_world.proofs.GrowthLemmas.{map_more}
use Rattle.bhs_model.proofs.NormalLemmas.{range_more}
use Rattle.bhs_shared_match.specs.Passes.{Passed, empty_pass, passes_of}
use Rattle.bhs_shared_match.specs.Unclaimed.{AreFresh}

pub passes_more : (game quota agent : ℕ) (passes new : List Passed) (pass : Passed)
    → passes ≡ passes_of game quota agent → pass ≡ empty_pass game quota agent → new ≡ passes ++ pass ∷ []
    → new ≡ passes_of game quota (agent + 1)
passes_more game quota agent passes new pass are is more =
    more ∙ ap (λ (passes : List Passed). passes ++ pass ∷ []) are
    ∙ ap (λ (pass : Passed). passes_of game quota agent ++ pass ∷ []) is
    ∙ sym (ap (map (empty_pass game quota)) (range_more agent)
    ∙ map_more (empty_pass game quota) (range_with_len 0 agent) agent)

-- Case analysis: a member of an extended list is an old member or the new one.
get_more : {A : Type 0} (xs : List A) (y x : A) (k : ℕ) → slice_get (xs ++ y ∷ []) k ≡ Some x
    → (slice_get xs k ≡ Some x) ⊎ ((k ≡ length xs) × (y ≡ x))
get_more [] y x zero is = inr (refl, cc)
get_more [] y x (suc k) is = absurd cc
get_more (first ∷ xs) y x zero is = inl is
get_more (first ∷ xs) y x (suc k) is = elim (get_more xs y x k is) [ inl h ↦ inl h | inr h ↦ inr (ap suc h.0, h.1) ]

pub fresh_more : (game quota agent : ℕ) (left new : List (Option Passed)) (pass : Passed) → (length left ≡ agent)
    × AreFresh left → pass ≡ empty_pass game quota agent → new ≡ left ++ Some pass ∷ [] →
    (length new ≡ agent + 1) × AreFresh new
fresh_more game quota agent left new pass so_far is more = (
  ap length more ∙ length-append left (Some pass ∷ []) ∙ ap (λ (n : ℕ). n + 1) so_far.0,
  λ other found there. elim (get_more left (Some pass) (Some found) other
      (ap (λ (xs : List (Option Passed)). slice_get xs other) (sym more) ∙ there)) [
        | inl h ↦ so_far.1 other found h
        | inr h ↦
            let same : found ≡ empty_pass game quota agent = some_same (sym h.1) ∙ is in
            record {
              its_agent = ap (λ (p : Passed). p.agent) same ∙ sym so_far.0 ∙ sym h.0;
              receipts = ap (λ (p : Passed). p.receipts) same;
              arrivals = ap (λ (p : Passed). p.arrivals) same;
            }
      ],
)
  where
    some_same : {x : Passed} → Some x ≡ Some pass → x ≡ pass
    some_same e = cc
