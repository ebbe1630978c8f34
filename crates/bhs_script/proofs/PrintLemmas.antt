-- How a text is printed line by line.
use Rattle.std.proofs.Common.{◌≡◌, ◌≢◌, ◌∙◌, ℕ, List, [], ◌∷◌, ◌++◌, Bool, true, false, ◌||◌, refl, ap, append_assoc}
use Rattle.std.proofs.Common.{length}
use Rattle.std.specs.List.{list_any}
use Rattle.bhs_wire.specs.Lines.{is_line_feed}
use Rattle.bhs_script.specs.Transcript.{begun_with}

-- what stands before the first line feed goes on as it is
begun-flat : (beginning line rest : List ℕ) → list_any is_line_feed line ≡ false
    → begun_with beginning false (line ++ 10 ∷ rest) ≡ line ++ 10 ∷ begun_with beginning true rest
begun-flat beginning [] rest none = refl
begun-flat beginning (byte ∷ line) rest none = by_byte (is_line_feed byte) none (λ h. begun-flat beginning line rest h)
  where
    by_byte : (b : Bool) → (b || list_any is_line_feed line) ≡ false
        → (list_any is_line_feed line ≡ false → begun_with beginning false (line ++ 10 ∷ rest) ≡ line
        ++ 10 ∷ begun_with beginning true rest)
        → byte ∷ begun_with beginning b (line ++ 10 ∷ rest) ≡ byte ∷ (line ++ 10 ∷ begun_with beginning true rest)
    by_byte true none later = cc
    by_byte false none later = ap (λ bytes. byte ∷ bytes) (later none)

-- a line that ends has one beginning
pub begun-ended : (beginning line rest : List ℕ) → list_any is_line_feed line ≡ false
    → begun_with beginning true (line ++ 10 ∷ rest) ≡ beginning ++ (line ++ 10 ∷ begun_with beginning true rest)
begun-ended beginning [] rest none = refl
begun-ended beginning (byte ∷ line) rest none = by_byte (is_line_feed byte) none
  where
    by_byte : (b : Bool) → (b || list_any is_line_feed line) ≡ false
        → beginning ++ byte ∷ begun_with beginning b (line ++ 10 ∷ rest)
        ≡ beginning ++ byte ∷ (line ++ 10 ∷ begun_with beginning true rest)
    by_byte true none = cc
    by_byte false none = ap (λ bytes. beginning ++ byte ∷ bytes) (begun-flat beginning line rest none)

-- A non-empty line without a line feed gets the beginning as well.
begun-rest : (beginning line : List ℕ) → list_any is_line_feed line ≡ false → begun_with beginning false line ≡ line
begun-rest beginning [] none = refl
begun-rest beginning (byte ∷ line) none = by_byte (is_line_feed byte) none (λ h. begun-rest beginning line h)
  where
    by_byte : (b : Bool) → (b || list_any is_line_feed line) ≡ false
        → (list_any is_line_feed line ≡ false → begun_with beginning false line ≡ line)
        → byte ∷ begun_with beginning b line ≡ byte ∷ line
    by_byte true none later = cc
    by_byte false none later = ap (λ bytes. byte ∷ bytes) (later none)

pub begun-last : (beginning line : List ℕ) → list_any is_line_feed line ≡ false → length line ≢ 0
    → begun_with beginning true line ≡ beginning ++ line
begun-last beginning [] none some = absurd (some refl)
begun-last beginning (byte ∷ line) none some = by_byte (is_line_feed byte) none
  where
    by_byte : (b : Bool) → (b || list_any is_line_feed line) ≡ false
        → beginning ++ byte ∷ begun_with beginning b line ≡ beginning ++ byte ∷ line
    by_byte true none = cc
    by_byte false none = ap (λ bytes. beginning ++ byte ∷ bytes) (begun-rest beginning line none)

-- a line that was put behind a text with its beginning and its line feed
pub put-line : (text beginning line rest : List ℕ)
    → (((text ++ beginning) ++ line) ++ 10 ∷ []) ++ rest ≡ text ++ (beginning ++ (line ++ 10 ∷ rest))
put-line text beginning line rest =
    append_assoc ((text ++ beginning) ++ line) (10 ∷ []) rest
    ∙ (append_assoc (text ++ beginning) line (10 ∷ rest) ∙ append_assoc text beginning (line ++ 10 ∷ rest))
