use Rattle.std.proofs.Common.{◌≡◌, ℕ, suc, ◌+◌, ◌-◌, ◌*◌, ◌^◌, ◌<◌, ◌≤◌, length, get_or, drop, drop-cons, List, [], ◌∷◌}
use Rattle.std.proofs.Common.{Bool, true, false, Option, None, refl, arith, if◌then◌else◌}
use Rattle.std.proofs.lemmas.Bool.Decides.{nat_tests}
use Rattle.std.specs.Char.{is_ascii_digit}
use Rattle.bhs_script.specs.Number.{fitting, read_on}

none_either_way : (b : Bool) (read : Option ℕ) → fitting read ≡ None → fitting (if b then read else None) ≡ None
none_either_way true read none = none
none_either_way false read none = refl

-- what does not fit 32 bits does not fit them with more digits
pub too_large : (n : ℕ) (digits : List ℕ) → 2 ^ 32 ≤ n → fitting (read_on n digits) ≡ None
too_large n [] large = grind (arith, nat_tests)
too_large n (digit ∷ digits) large =
    none_either_way (is_ascii_digit digit) _ (too_large (10 * n + (digit - 48)) digits (omega arith))

-- the same at the digit with this index
pub too_large_at : (n : ℕ) (digits : List ℕ) (i : ℕ) → i < length digits → 2 ^ 32 ≤ 10 * n + (get_or digits i 0 - 48)
    → fitting (read_on n (drop i digits)) ≡ None
too_large_at n digits i within large =
    rw (drop-cons digits i 0 within) (none_either_way (is_ascii_digit (get_or digits i 0)) _
    (too_large (10 * n + (get_or digits i 0 - 48)) (drop (suc i) digits) large))
