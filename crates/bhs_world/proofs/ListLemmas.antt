-- What holds of a list that is written at one place.
use Rattle.std.proofs.Common.{◌≡◌, ℕ, ◌+◌, ◌<◌, ◌≤◌, true, false, List, length, nat_lt, ◌==◌, ◌⊎◌, inl, inr, refl}
use Rattle.std.proofs.Common.{arith, get_or-set_same, get_or-set_other}
use Rattle.std.specs.Prelude.{slice_set, slice_index_or, nat_le}
use Rattle.bhs_model.specs.Runs.{changed}
use Rattle.std.proofs.lemmas.Bool.Decides.{eqb_tells, leb_tells}

-- P holds at each place after a write if P holds of the written value and at every other place.
pub each_set : {A : Type 0} (P : ℕ → A → Type 0) (xs : List A) (i : ℕ) (x d : A) → i < length xs → P i x
    → ((k : ℕ) → (k == i) ≡ false → P k (slice_index_or xs k d)) → (k : ℕ) → P k (slice_index_or (slice_set xs i x) k d)
each_set P xs i x d lt written others k = elim (eqb_tells k i) [
  | inl h ↦ rw h.1 (rw (get_or-set_same xs i x d lt) written)
  | inr h ↦ rw (get_or-set_other xs i k x d h.1) (others k h.0)
]

-- a function that was changed at one place has the new value there
pub changed_same : {A : Type 0} (f : ℕ → A) (place : ℕ) (value : A) → changed f place value place ≡ value
changed_same f place value = elim (eqb_tells place place) [ inl h ↦ rw h.0 refl | inr h ↦ absurd (h.1 refl) ]

-- Case analysis: a comparison, together with what its result proves.
pub lt_tells : (a b : ℕ) → ((nat_lt a b ≡ true) × (a < b)) ⊎ ((nat_lt a b ≡ false) × (b ≤ a))
lt_tells a b = elim (leb_tells (a + 1) b) [ inl h ↦ inl (omega_first h) | inr h ↦ inr (omega_second h) ]
  where
    omega_first : ((nat_le (a + 1) b ≡ true) × (a + 1 ≤ b)) → ((nat_lt a b ≡ true) × (a < b))
    omega_first h = (grind (arith, h), omega arith)

    omega_second : ((nat_le (a + 1) b ≡ false) × (b < a + 1)) → ((nat_lt a b ≡ false) × (b ≤ a))
    omega_second h = (grind (arith, h), omega arith)
