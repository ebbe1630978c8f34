-- Where a byte stands, and a line feed.
use Rattle.std.proofs.Common.{◌≡◌, ℕ, ◌+◌, ◌-◌, ◌<◌, ◌≤◌, List, ◌∷◌, ◌++◌, length, get_or, take, drop, Bool, true}
use Rattle.std.proofs.Common.{◌==◌, false, cond, nat_lt, Some, None, refl, sym, ap, ap₂, ◌∙◌, arith, add-one}
use Rattle.std.proofs.Common.{length-take, length-drop, drop-cons}
use Rattle.std.proofs.lemmas.Bool.Decides.{nat_tests}
use Rattle.std.proofs.lemmas.List.{take-append-drop, take_all, get_or-take}
use Rattle.std.proofs.lemmas.List.Folds.{list_any_none}
use Rattle.std.proofs.lemmas.List.Quantifiers.{position-Some}
use Rattle.std.proofs.lemmas.List.Sums.{fails_before_first}
use Rattle.std.specs.List.{list_any, position, position_or_len}
use Rattle.bhs_wire.specs.Lines.{is_line_feed}

passed : (n len : ℕ) (b : Bool) → nat_lt n len ≡ b → cond b (Some n) None ≡ None → len ≤ n
passed n len true is none = cc
passed n len false is none = grind (arith, nat_tests)

-- no line feed is found where none stands
pub no_line_feed : (bytes : List ℕ) → position is_line_feed bytes ≡ None → list_any is_line_feed bytes ≡ false
no_line_feed bytes none =
    let all = passed (position_or_len is_line_feed bytes) (length bytes) _ refl none in
    list_any_none is_line_feed bytes (λ k d h. fails_before_first is_line_feed bytes k d (omega arith))

-- No line feed stands before the first one.
pub no_line_feed_before : (bytes : List ℕ) (end : ℕ) → position is_line_feed bytes ≡ Some end
    → list_any is_line_feed (take end bytes) ≡ false
no_line_feed_before bytes end found =
    list_any_none is_line_feed (take end bytes) (λ k d h.
    let here : k < end = omega (arith, length-take end bytes) in
    rw get_or-take ((position-Some is_line_feed bytes end d found).2 k here))

-- The bytes consist of those before the first occurrence, the byte itself, and those after it.
pub around : (mark : ℕ) (bytes : List ℕ) (end : ℕ) → position (λ byte. byte == mark) bytes ≡ Some end
    → bytes ≡ take end bytes ++ mark ∷ take (length bytes - (end + 1)) (drop (end + 1) bytes)
around mark bytes end found =
    let at_end = position-Some (λ byte. byte == mark) bytes end 0 found in
    let within : end < length bytes = at_end.0 in
    let first : get_or bytes end 0 ≡ mark = grind (arith, nat_tests, at_end.1) in
    let whole : take (length bytes - (end + 1)) (drop (end + 1) bytes) ≡ drop (end + 1) bytes =
    take_all _ _ (omega (arith, length-drop (end + 1) bytes)) in
    let behind : drop end bytes ≡ mark ∷ drop (end + 1) bytes = drop-cons bytes end 0 within
    ∙ ap₂ (λ byte rest. byte ∷ rest) first (ap (λ n. drop n bytes) (sym (add-one end))) in
    sym (take-append-drop end bytes)
    ∙ ap (λ more. take end bytes ++ more) (behind ∙ ap (λ rest. mark ∷ rest) (sym whole))
