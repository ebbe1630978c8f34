-- How a script is cut into lines.
use Rattle.std.proofs.Common.{◌≡◌, ℕ, List, [], ◌∷◌, ◌++◌, Bool, true, false, ◌||◌, refl, ap, if◌then◌else◌}
use Rattle.std.specs.List.{list_any}
use Rattle.bhs_wire.specs.Lines.{is_line_feed}
use Rattle.bhs_script.specs.Script.{onto_first, lines_of}

-- what stands before the first line feed is the first line
pub lines_of-found : (line rest : List ℕ) → list_any is_line_feed line ≡ false
    → lines_of (line ++ 10 ∷ rest) ≡ line ∷ lines_of rest
lines_of-found [] rest none = refl
lines_of-found (byte ∷ line) rest none = by_byte (is_line_feed byte) none (λ h. lines_of-found line rest h)
  where
    by_byte : (b : Bool) → (b || list_any is_line_feed line) ≡ false
        → (list_any is_line_feed line ≡ false → lines_of (line ++ 10 ∷ rest) ≡ line ∷ lines_of rest)
        → (if b then [] ∷ lines_of (line ++ 10 ∷ rest) else onto_first byte
        (lines_of (line ++ 10 ∷ rest))) ≡ (byte ∷ line) ∷ lines_of rest
    by_byte true none later = cc
    by_byte false none later = ap (onto_first byte) (later none)

-- without a line feed there is one line
pub lines_of-none : (line : List ℕ) → list_any is_line_feed line ≡ false → lines_of line ≡ line ∷ []
lines_of-none [] none = refl
lines_of-none (byte ∷ line) none = by_byte (is_line_feed byte) none (λ h. lines_of-none line h)
  where
    by_byte : (b : Bool) → (b || list_any is_line_feed line) ≡ false
        → (list_any is_line_feed line ≡ false → lines_of line ≡ line ∷ [])
        → (if b then [] ∷ lines_of line else onto_first byte (lines_of line)) ≡ (byte ∷ line) ∷ []
    by_byte true none later = cc
    by_byte false none later = ap (onto_first byte) (later none)
