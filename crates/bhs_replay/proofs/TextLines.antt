-- The lines of a text that comes piece by piece.
use Rattle.std.proofs.Common.{◌≡◌, ℕ, List, [], ◌∷◌, ◌++◌, false, refl, sym, ap, ap₂, ◌∙◌, append_assoc, append-nil}
use Rattle.std.proofs.Common.{if◌then◌else◌}
use Rattle.std.proofs.lemmas.Bool.{or_parts}
use Rattle.std.specs.List.{list_any}
use Rattle.bhs_wire.specs.Lines.{is_line_feed, grown, rest_after}
use Rattle.bhs_wire.proofs.StreamLaws.{rest_after-append}
use Rattle.bhs_replay.specs.Stages.{ended_after}

pub ended-append : (line xs ys : List ℕ) → ended_after line (xs ++ ys) ≡ ended_after line xs
    ++ ended_after (rest_after line xs) ys
ended-append line [] ys = refl
ended-append line (byte ∷ xs) ys =
    let here : List (List ℕ) = if is_line_feed byte then line ∷ [] else [] in
    ap (λ lines. here ++ lines) (ended-append (grown line byte) xs ys)
    ∙ sym (append_assoc here (ended_after (grown line byte) xs) (ended_after (rest_after (grown line byte) xs) ys))

-- ---- bytes without a line feed

grown-flat : (line : List ℕ) (byte : ℕ) → is_line_feed byte ≡ false → grown line byte ≡ line ++ byte ∷ []
grown-flat line byte flat = rw flat

pub rest-flat : (line piece : List ℕ) → list_any is_line_feed piece ≡ false → rest_after line piece ≡ line ++ piece
rest-flat line [] flat = sym (append-nil line)
rest-flat line (byte ∷ piece) flat =
    let parts = or_parts (is_line_feed byte) _ flat in
    rest-flat (grown line byte) piece parts.1
    ∙ (ap (λ next. next ++ piece) (grown-flat line byte parts.0) ∙ append_assoc line (byte ∷ []) piece)

pub ended-flat : (line piece : List ℕ) → list_any is_line_feed piece ≡ false → ended_after line piece ≡ []
ended-flat line [] flat = refl
ended-flat line (byte ∷ piece) flat =
    let parts = or_parts (is_line_feed byte) _ flat in
    rw parts.0 (ended-flat (line ++ byte ∷ []) piece parts.1)

-- ---- and with one behind them

pub rest-line : (line end : List ℕ) → rest_after line (end ++ 10 ∷ []) ≡ []
rest-line line end = rest_after-append line end (10 ∷ [])

pub ended-line : (line end : List ℕ) → list_any is_line_feed end ≡ false
    → ended_after line (end ++ 10 ∷ []) ≡ (line ++ end) ∷ []
ended-line line end flat =
    ended-append line end (10 ∷ []) ∙ ap₂ (λ (lines : List (List ℕ)) (last : List ℕ). lines ++ last ∷ [])
    (ended-flat line end flat) (rest-flat line end flat)
