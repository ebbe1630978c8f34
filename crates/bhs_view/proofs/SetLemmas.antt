-- Places of a log, as a list and as a set.
use Rattle.std.proofs.Common.{ℕ, suc, ◌+◌, ◌<◌, ◌≡◌, Bool, false, List, [], ◌∷◌, length}
use Rattle.std.proofs.Common.{nat_eq, refl, ap, ap₂, ◌∙◌, arith}
use Rattle.std.specs.Prelude.{slice_index_or}
use Rattle.std.specs.List.{list_any}
use Rattle.bhs_view.specs.Places.{set_from}

-- a set has just these places, out of this number
pub record IsSetOf (set : List Bool) (places : List ℕ) (many : ℕ) : Type 0 where
  pub count : length set ≡ many
  pub marks : (place : ℕ) → place < many → slice_index_or set place false ≡ list_any (nat_eq place) places

set_same_from : {A : Type 0} (set : List Bool) (place : ℕ) (places : List ℕ) (xs : List A) → length set ≡ length xs →
    ((index : ℕ) → index < length xs → slice_index_or set index false ≡ list_any (nat_eq (place + index)) places)
    → set ≡ set_from place places xs
set_same_from [] place places [] same marks = refl
set_same_from [] place places (x ∷ xs) same marks = absurd (omega (arith, same))
set_same_from (chosen ∷ set) place places [] same marks = absurd (omega (arith, same))
set_same_from (chosen ∷ set) place places (x ∷ xs) same marks =
    ap₂ (λ (first : Bool) (others : List Bool). first ∷ others)
    (marks 0 (omega arith) ∙ ap (λ (n : ℕ). list_any (nat_eq n) places) (at_first place))
    (set_same_from set (suc place) places xs (omega (arith, same))
    (λ index within. marks (suc index) (omega arith) ∙ ap (λ (n : ℕ). list_any (nat_eq n) places) (moved place index)))
  where
    at_first : (n : ℕ) → n + 0 ≡ n
    at_first n = omega arith

    moved : (n k : ℕ) → n + suc k ≡ suc n + k
    moved n k = omega arith

pub set_same : {A : Type 0} (set : List Bool) (places : List ℕ) (xs : List A) → IsSetOf set places (length xs)
    → set ≡ set_from 0 places xs
set_same set places xs are = set_same_from set 0 places xs are.count
    (λ index within. are.marks index within ∙ ap (λ (n : ℕ). list_any (nat_eq n) places) (same index))
  where
    same : (n : ℕ) → n ≡ 0 + n
    same n = omega arith

pub length_set : {A : Type 0} (place : ℕ) (places : List ℕ) (xs : List A)
    → length (set_from place places xs) ≡ length xs
length_set place places [] = refl
length_set place places (x ∷ xs) = ap (λ (n : ℕ). suc n) (length_set (suc place) places xs)
