-- The place that a search for a byte finds.
use Rattle.std.proofs.Common.{◌≡◌, ℕ, List, length, get_or, Bool, true, false, Option, Some, None}
use Rattle.std.proofs.Common.{refl, arith}
use Rattle.std.proofs.lemmas.Bool.Decides.{nat_tests}
use Rattle.std.proofs.lemmas.List.Sums.{position_or_len_is}
use Rattle.std.specs.List.{position}
use Rattle.memchr.specs.Find.{IsFirstByte}

fails : (b : Bool) → ((b ≡ true) → ⊥) → b ≡ false
fails true never = absurd (never refl)
fails false never = refl

pub position-from_first : (test : ℕ → Bool) (bytes : List ℕ) (found : Option ℕ) → IsFirstByte test bytes found
    → found ≡ position test bytes
position-from_first test bytes None none =
    let at_end = position_or_len_is test bytes (length bytes) 0 (omega arith)
    (λ k h. fails (test (get_or bytes k 0)) (none k (omega arith) h)) (λ h. absurd (omega arith)) in
    grind (arith, nat_tests, at_end)
position-from_first test bytes (Some k) first =
    let at_k = position_or_len_is test bytes k 0 (omega (arith, first.0.high))
    (λ j h. fails (test (get_or bytes j 0)) (first.0.before j (omega arith) h)) (λ h. first.1) in
    grind (arith, nat_tests, at_k, first.0.high)
