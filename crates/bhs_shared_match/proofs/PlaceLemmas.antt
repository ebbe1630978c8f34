-- Small lemmas on lists and on what is found in them.
use Rattle.std.proofs.Common.{◌≡◌, ℕ, zero, suc, ◌<◌, Bool, true, false, ◌||◌, Some, None, List, [], ◌∷◌, ◌++◌, take}
use Rattle.std.proofs.Common.{refl, ap, ◌∙◌, arith}
use Rattle.std.specs.Prelude.{slice_get}
use Rattle.std.specs.List.{list_any}
use Rattle.std.proofs.lemmas.List.Folds.{list_any-append}

pub or_false : (b : Bool) → (b || false) ≡ b
or_false true = refl
or_false false = refl

pub any_push : {A : Type 0} (p : A → Bool) (xs : List A) (y : A) → list_any p (xs ++ y ∷ []) ≡ (list_any p xs || p y)
any_push p xs y = list_any-append p xs (y ∷ []) ∙ ap (λ (b : Bool). list_any p xs || b) (or_false (p y))

-- within the first ones
pub get_take : {A : Type 0} (n : ℕ) (xs : List A) (k : ℕ) → k < n → slice_get (take n xs) k ≡ slice_get xs k
get_take zero xs k below = absurd (omega (arith, below))
get_take (suc n) [] k below = refl
get_take (suc n) (x ∷ xs) zero below = refl
get_take (suc n) (x ∷ xs) (suc k) below = get_take n xs k (omega (arith, below))

-- lists that have the same at each place are the same
pub same_at_each : {A : Type 0} (xs ys : List A) → ((k : ℕ) → slice_get xs k ≡ slice_get ys k) → xs ≡ ys
same_at_each [] [] same = refl
same_at_each [] (y ∷ ys) same = let first : None ≡ Some y = same 0 in absurd cc
same_at_each (x ∷ xs) [] same = let first : Some x ≡ None = same 0 in absurd cc
same_at_each (x ∷ xs) (y ∷ ys) same =
    let first : Some x ≡ Some y = same 0 in
    let one : x ≡ y = cc in
    let rest : xs ≡ ys = same_at_each xs ys (λ k. same (suc k)) in
    ap (λ (x : _). x ∷ xs) one ∙ ap (λ (xs : List _). y ∷ xs) rest
