-- Laws of streams in pieces.
use Rattle.std.proofs.Common.{◌≡◌, ℕ, ◌<◌, ◌≤◌, List, [], ◌∷◌, ◌++◌, length, Bool, true, false, cond, nat_lt, Option}
use Rattle.std.proofs.Common.{Some, None, refl, sym, ap, ap₂, ◌∙◌, append_assoc, append-nil, length-append, subst, map}
use Rattle.std.proofs.Common.{option_to_list, option_map, option_and_then, Vec, Global, inl, inr, ◌⊎◌, arith}
use Rattle.std.proofs.lemmas.Bool.Decides.{nat_tests}
use Rattle.std.proofs.lemmas.Bool.{or_parts}
use Rattle.std.specs.List.{list_any}
use Rattle.std.specs.Option.{ForSome}
use Rattle.bhs_model.specs.declared.limits.TheConstants.{MAX_LINE}
use Rattle.bhs_wire.specs.declared.kinds.LineKind.{LineKind}
use Rattle.bhs_wire.specs.declared.kinds.LineKind.TheVariants as kind
use Rattle.bhs_wire.specs.First.{says, says_as}
use Rattle.bhs_wire.specs.LineKind.{line_kind}
use Rattle.bhs_wire.specs.Lines.{Line, Over, given, given_as, said_by, is_line_feed, given_at, grown, lines_after}
use Rattle.bhs_wire.specs.Lines.{rest_after, lines, rest, as_held, held_of, found_at, left_at, found_in, left_by}
use Rattle.bhs_wire.specs.Lines.{ended_by}

-- ---- what a line means

says_kind : (k : LineKind) (line : List ℕ) → map said_by (given_as k line) ≡ option_to_list (says_as k line)
says_kind kind.Over line = refl
says_kind kind.Blank line = refl
says_kind kind.Whole line = refl

pub says_given : (line : List ℕ) → map said_by (given line) ≡ option_to_list (says line)
says_given line = says_kind (line_kind line) line

-- ---- any pieces

pub found_in-append : (held : Option (List ℕ)) (piece more : List ℕ) → found_in held (piece ++ more) ≡ found_in held
    piece ++ found_in (left_by held piece) more
found_in-append held [] more = refl
found_in-append held (byte ∷ piece) more =
    ap (λ found. found_at held byte ++ found) (found_in-append (left_at held byte) piece more)
    ∙ sym (append_assoc (found_at held byte) _ _)

pub left_by-append : (held : Option (List ℕ)) (piece more : List ℕ) → left_by held (piece ++ more) ≡ left_by
    (left_by held piece) more
left_by-append held [] more = refl
left_by-append held (byte ∷ piece) more = left_by-append (left_at held byte) piece more

-- ---- what is held is enough

lines_after-append : (line stream piece : List ℕ) → lines_after line (stream ++ piece) ≡ lines_after line stream
    ++ lines_after (rest_after line stream) piece
lines_after-append line [] piece = refl
lines_after-append line (byte ∷ stream) piece =
    ap (λ found. given_at line byte ++ found) (lines_after-append (grown line byte) stream piece)
    ∙ sym (append_assoc (given_at line byte) _ _)

pub rest_after-append : (line stream piece : List ℕ) → rest_after line (stream ++ piece) ≡ rest_after
    (rest_after line stream) piece
rest_after-append line [] piece = refl
rest_after-append line (byte ∷ stream) piece = rest_after-append (grown line byte) stream piece

held_at : (b : Bool) (line : List ℕ) → nat_lt MAX_LINE (length line) ≡ b → as_held line ≡ cond b None (Some line)
held_at b line is = ap (λ long. cond long None (Some line)) is

-- a line that is not too long is held whole
pub held_whole : (line : List ℕ) → length line ≤ MAX_LINE → as_held line ≡ Some line
held_whole line fits = held_at false line (grind (arith, nat_tests))

pub held_none : (line : List ℕ) → MAX_LINE < length line → as_held line ≡ None
held_none line long = held_at true line (grind (arith, nat_tests))

longer : (line : List ℕ) (byte : ℕ) → MAX_LINE < length line → MAX_LINE < length (line ++ byte ∷ [])
longer line byte long = simp length-append (omega arith)

-- one more byte, of a line that is too long
grown_long : (line : List ℕ) (byte : ℕ) (b : Bool) → MAX_LINE < length line
    → as_held (cond b [] (line ++ byte ∷ [])) ≡ cond b (Some []) None
grown_long line byte true long = refl
grown_long line byte false long = held_none (line ++ byte ∷ []) (longer line byte long)

-- the line feed behind a line that is too long
given_long : (line : List ℕ) → MAX_LINE < length line → given line ≡ Over ∷ []
given_long line long = let too_long : nat_lt MAX_LINE (length line) ≡ true = grind (arith, nat_tests) in
    rw too_long refl

either : (b : Bool) (m n : ℕ) → nat_lt m n ≡ b → (n ≤ m) ⊎ (m < n)
either true m n is = inr (grind (arith, nat_tests))
either false m n is = inl (grind (arith, nat_tests))

at_length : (line : List ℕ) → (length line ≤ MAX_LINE) ⊎ (MAX_LINE < length line)
at_length line = either _ MAX_LINE (length line) refl

left_at-as_held : (line : List ℕ) (byte : ℕ) → left_at (as_held line) byte ≡ as_held (grown line byte)
left_at-as_held line byte = elim (at_length line) [
  | inl fits ↦ rw (held_whole line fits)
  | inr long ↦ rw (held_none line long) (sym (grown_long line byte (is_line_feed byte) long))
]

found_at_long : (line : List ℕ) (b : Bool) → MAX_LINE < length line → cond b (Over ∷ []) [] ≡ cond b (given line) []
found_at_long line true long = sym (given_long line long)
found_at_long line false long = refl

found_at-as_held : (line : List ℕ) (byte : ℕ) → found_at (as_held line) byte ≡ given_at line byte
found_at-as_held line byte = elim (at_length line) [
  | inl fits ↦ rw (held_whole line fits)
  | inr long ↦ rw (held_none line long) (found_at_long line (is_line_feed byte) long)
]

pub lines_after-as_held : (line piece : List ℕ) → lines_after line piece ≡ found_in (as_held line) piece
lines_after-as_held line [] = refl
lines_after-as_held line (byte ∷ piece) =
    ap₂ (λ found more. found ++ more) (sym (found_at-as_held line byte))
    (lines_after-as_held (grown line byte) piece ∙ ap (λ held. found_in held piece) (sym (left_at-as_held line byte)))

pub rest_after-as_held : (line piece : List ℕ) → as_held (rest_after line piece) ≡ left_by (as_held line) piece
rest_after-as_held line [] = refl
rest_after-as_held line (byte ∷ piece) = rest_after-as_held (grown line byte) piece
    ∙ ap (λ held. left_by held piece) (sym (left_at-as_held line byte))

pub lines-append : (stream piece : List ℕ) → lines (stream ++ piece) ≡ lines stream ++ found_in (held_of stream) piece
lines-append stream piece = lines_after-append [] stream piece
    ∙ ap (λ more. lines stream ++ more) (lines_after-as_held (rest stream) piece)

pub held_of-append : (stream piece : List ℕ) → held_of (stream ++ piece) ≡ left_by (held_of stream) piece
held_of-append stream piece = ap as_held (rest_after-append [] stream piece) ∙ rest_after-as_held (rest stream) piece

-- ---- pieces with no line feed, and with one

found_at-flat : (held : Option (List ℕ)) (byte : ℕ) → is_line_feed byte ≡ false → found_at held byte ≡ []
found_at-flat None byte flat = rw flat
found_at-flat (Some line) byte flat = rw flat

pub found_in-flat : (held : Option (List ℕ)) (piece : List ℕ) → list_any is_line_feed piece ≡ false
    → found_in held piece ≡ []
found_in-flat held [] flat = refl
found_in-flat held (byte ∷ piece) flat =
    let parts = or_parts (is_line_feed byte) _ flat in
    ap₂ (λ found more. found ++ more) (found_at-flat held byte parts.0)
    (found_in-flat (left_at held byte) piece parts.1)

pub left_by-none : (piece : List ℕ) → list_any is_line_feed piece ≡ false → left_by None piece ≡ None
left_by-none [] flat = refl
left_by-none (byte ∷ piece) flat =
    let parts = or_parts (is_line_feed byte) _ flat in
    rw parts.0 (left_by-none piece parts.1)

longer_by : (line piece : List ℕ) → MAX_LINE < length line → MAX_LINE < length (line ++ piece)
longer_by line piece long = simp length-append (omega arith)

grown-flat : (line : List ℕ) (byte : ℕ) → is_line_feed byte ≡ false → grown line byte ≡ line ++ byte ∷ []
grown-flat line byte flat = rw flat

regrouped : (line piece : List ℕ) (byte : ℕ) → (line ++ byte ∷ []) ++ piece ≡ line ++ byte ∷ piece
regrouped line piece byte = append_assoc line (byte ∷ []) piece

-- the buffer after a piece without a line feed
pub left_by-flat : (line piece : List ℕ) → length line ≤ MAX_LINE → list_any is_line_feed piece ≡ false
    → left_by (Some line) piece ≡ as_held (line ++ piece)
left_by-flat line [] fits flat = sym (held_whole line fits) ∙ ap as_held (sym (append-nil line))
left_by-flat line (byte ∷ piece) fits flat =
    let parts = or_parts (is_line_feed byte) _ flat in
    let next = line ++ byte ∷ [] in
    let step = ap (λ more. left_by (as_held more) piece) (grown-flat line byte parts.0) in
    step ∙ elim (at_length next) [
      | inl short ↦ ap (λ held. left_by held piece) (held_whole next short)
          ∙ (left_by-flat next piece short parts.1 ∙ ap as_held (regrouped line piece byte))
      | inr long ↦ ap (λ held. left_by held piece) (held_none next long)
          ∙ (left_by-none piece parts.1 ∙ sym
          (held_none (line ++ byte ∷ piece) (subst (λ more. MAX_LINE < length more) (regrouped line piece byte)
          (longer_by next piece long))))
    ]

left_at-ended : (held : Option (List ℕ)) → left_at held 10 ≡ Some []
left_at-ended None = refl
left_at-ended (Some line) = refl

-- The buffer fits within the limit for a line.
abbrev pub FitsHeld : Option (List ℕ) → Type 0
FitsHeld held = ForSome held (λ line. length line ≤ MAX_LINE)

ended : (held : Option (List ℕ)) (end : List ℕ) → FitsHeld held → list_any is_line_feed end ≡ false
    → found_at (left_by held end) 10 ≡ ended_by held end
ended None end fits flat = ap (λ held. found_at held 10) (left_by-none end flat)
ended (Some line) end fits flat = ap (λ held. found_at held 10) (left_by-flat line end (fits line refl) flat)
    ∙ found_at-as_held (line ++ end) 10

-- the lines of a piece whose first line feed stands behind `end`
pub found_in-ended : (held : Option (List ℕ)) (end more : List ℕ) → FitsHeld held → list_any is_line_feed end ≡ false
    → found_in held (end ++ 10 ∷ more) ≡ ended_by held end ++ found_in (Some []) more
found_in-ended held end more fits flat =
    found_in-append held end (10 ∷ more)
    ∙ (ap (λ found. found ++ found_in (left_by held end) (10 ∷ more)) (found_in-flat held end flat)
    ∙ ap₂ (λ found next. found ++ found_in next more) (ended held end fits flat) (left_at-ended (left_by held end)))

pub left_by-ended : (held : Option (List ℕ)) (end more : List ℕ)
    → left_by held (end ++ 10 ∷ more) ≡ left_by (Some []) more
left_by-ended held end more = left_by-append held end (10 ∷ more)
    ∙ ap (λ next. left_by next more) (left_at-ended (left_by held end))

-- ---- the same of a whole stream

lines_after-flat : (line piece : List ℕ) → list_any is_line_feed piece ≡ false → lines_after line piece ≡ []
lines_after-flat line [] flat = refl
lines_after-flat line (byte ∷ piece) flat =
    let parts = or_parts (is_line_feed byte) _ flat in
    ap₂ (λ found more. found ++ more) (found_at-flat (Some line) byte parts.0)
    (lines_after-flat (grown line byte) piece parts.1)

rest_after-flat : (line piece : List ℕ) → list_any is_line_feed piece ≡ false → rest_after line piece ≡ line ++ piece
rest_after-flat line [] flat = sym (append-nil line)
rest_after-flat line (byte ∷ piece) flat =
    let parts = or_parts (is_line_feed byte) _ flat in
    rest_after-flat (grown line byte) piece parts.1
    ∙ (ap (λ next. next ++ piece) (grown-flat line byte parts.0) ∙ regrouped line piece byte)

pub lines-flat : (bytes : List ℕ) → list_any is_line_feed bytes ≡ false → lines bytes ≡ []
lines-flat = lines_after-flat []

pub rest-flat : (bytes : List ℕ) → list_any is_line_feed bytes ≡ false → rest bytes ≡ bytes
rest-flat = rest_after-flat []

pub lines-ended : (line more : List ℕ) → list_any is_line_feed line ≡ false
    → lines (line ++ 10 ∷ more) ≡ given line ++ lines more
lines-ended line more flat =
    lines_after-append [] line (10 ∷ more)
    ∙ ap₂ (λ found last. found ++ (given last ++ lines more)) (lines-flat line flat) (rest-flat line flat)

pub rest-ended : (line more : List ℕ) → rest (line ++ 10 ∷ more) ≡ rest more
rest-ended line more = rest_after-append [] line (10 ∷ more)

-- ---- quantification over all earlier streams

pub lines_of_stream : (held : Option (List ℕ)) (piece : List ℕ) (found : List Line) → found ≡ found_in held piece
    → (stream : List ℕ) → held ≡ held_of stream → lines (stream ++ piece) ≡ lines stream ++ found
lines_of_stream held piece found is stream stands =
    lines-append stream piece ∙ ap (λ more. lines stream ++ more) (ap (λ old. found_in old piece) (sym stands) ∙ sym is)

pub held_of_stream : (held : Option (List ℕ)) (piece : List ℕ) (left : Option (List ℕ)) → left ≡ left_by held piece
    → (stream : List ℕ) → held ≡ held_of stream → left ≡ held_of (stream ++ piece)
held_of_stream held piece left is stream stands =
    is ∙ (ap (λ old. left_by old piece) stands ∙ sym (held_of-append stream piece))

-- ---- the buffer in terms of the code

abbrev pub bytes_of : Option (Vec ℕ Global) → Option (List ℕ)
bytes_of held = option_map (λ line. line.items) held

fits_bytes : (held : Option (Vec ℕ Global)) → ForSome held (λ line. length line.items ≤ MAX_LINE)
    → FitsHeld (bytes_of held)
fits_bytes None fits = λ line is. cc
fits_bytes (Some vec) fits = λ line is. let same : vec.items ≡ line = cc in
    subst (λ bytes. length bytes ≤ MAX_LINE) same (fits vec refl)

pub hold_left : (held : Option (Vec ℕ Global)) (piece : List ℕ) → ForSome held (λ line. length line.items ≤ MAX_LINE)
    → list_any is_line_feed piece ≡ false → option_and_then (λ line. as_held (line.items ++ piece)) held ≡ left_by
    (bytes_of held) piece
hold_left None piece fits flat = sym (left_by-none piece flat)
hold_left (Some line) piece fits flat = sym (left_by-flat line.items piece (fits line refl) flat)

pub found_first : (held : Option (Vec ℕ Global)) (piece end more : List ℕ)
    → ForSome held (λ line. length line.items ≤ MAX_LINE) → piece ≡ end ++ 10 ∷ more → list_any is_line_feed end ≡ false
    → ended_by (bytes_of held) end ++ lines more ≡ found_in (bytes_of held) piece
found_first held piece end more fits is flat =
    ap (λ found. ended_by (bytes_of held) end ++ found) (lines_after-as_held [] more)
    ∙ (sym (found_in-ended (bytes_of held) end more (fits_bytes held fits) flat)
    ∙ ap (λ bytes. found_in (bytes_of held) bytes) (sym is))

pub left_last : (held : Option (List ℕ)) (piece end more : List ℕ) → piece ≡ end ++ 10 ∷ more
    → as_held (rest more) ≡ left_by held piece
left_last held piece end more is = rest_after-as_held [] more
    ∙ (sym (left_by-ended held end more) ∙ ap (λ bytes. left_by held bytes) (sym is))
