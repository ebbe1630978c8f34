-- A client's bytes, cut into lines.
use Rattle.std.specs.Prelude.{ℕ, Bool, List, [], ◌∷◌, ◌++◌, length, ◌==◌, nat_lt, if◌then◌else◌, Option, Some, None}
use Rattle.std.specs.Cow.{cow_slice_items}
use Rattle.bhs_model.specs.declared.commands.Command.TheVariants.{Bad}
use Rattle.bhs_wire.specs.First.{first_of}
use Rattle.bhs_wire.specs.LineKind.{line_kind}
use Rattle.bhs_wire.specs.declared.commands.First.{First}
use Rattle.bhs_wire.specs.declared.commands.First.TheVariants.{Tell}
use Rattle.bhs_wire.specs.declared.kinds.LineKind.{LineKind}
use Rattle.bhs_wire.specs.declared.kinds.LineKind.TheVariants as kind
use Rattle.bhs_model.specs.declared.limits.TheConstants.{MAX_LINE}
use Rattle.bhs_wire.specs.declared.pieces.Raw.{Raw}
use Rattle.bhs_wire.specs.declared.pieces.Raw.TheVariants as raw

-- a line of a stream; of one that is too long nothing is held
pub data Line : Type 0 where
  Whole : List ℕ → Line
  Over : Line

-- a line of the code, without where it lies in memory
abbrev pub seen : Raw → Line
seen (raw.Whole bytes) = Whole (cow_slice_items bytes)
seen raw.Over = Over

-- what a line of this kind gives: a blank one nothing
abbrev pub given_as : LineKind → List ℕ → List Line
given_as kind.Over line = Over ∷ []
given_as kind.Blank line = []
given_as kind.Whole line = Whole line ∷ []

-- what a line gives, its bytes being those before a line feed
abbrev pub given : List ℕ → List Line
given line = given_as (line_kind line) line

-- what a client means by a line that was found
abbrev pub said_by : Line → First
said_by (Whole line) = first_of line
said_by Over = Tell Bad

-- ---- a whole stream

-- the byte that ends a line
abbrev pub is_line_feed : ℕ → Bool
is_line_feed byte = byte == 10

-- what one more byte gives: a line feed gives the line before it
abbrev pub given_at : List ℕ → ℕ → List Line
given_at line byte = if is_line_feed byte then given line else []

-- the unfinished line after one more byte
abbrev pub grown : List ℕ → ℕ → List ℕ
grown line byte = if is_line_feed byte then [] else line ++ byte ∷ []

-- the lines that end in the bytes, where this line is unfinished before them
abbrev pub lines_after : List ℕ → List ℕ → List Line
lines_after line [] = []
lines_after line (byte ∷ bytes) = given_at line byte ++ lines_after (grown line byte) bytes

-- the unfinished line after these pieces
abbrev pub rest_after : List ℕ → List ℕ → List ℕ
rest_after line [] = line
rest_after line (byte ∷ bytes) = rest_after (grown line byte) bytes

-- the lines of a stream. Bytes after the last line feed are no line
abbrev pub lines : List ℕ → List Line
lines = lines_after []

-- the bytes after the last line feed
abbrev pub rest : List ℕ → List ℕ
rest = rest_after []

-- ---- the same in terms of the buffer

-- an unfinished line as it is held: none of its bytes once they are too many
abbrev pub as_held : List ℕ → Option (List ℕ)
as_held line = if nat_lt MAX_LINE (length line) then None else Some line

-- the buffer of a stream
abbrev pub held_of : List ℕ → Option (List ℕ)
held_of stream = as_held (rest stream)

-- what one more byte gives, where this much is held
abbrev pub found_at : Option (List ℕ) → ℕ → List Line
found_at None byte = if is_line_feed byte then Over ∷ [] else []
found_at (Some line) byte = given_at line byte

-- The buffer afterwards: empty while a line that is too long has not ended.
abbrev pub left_at : Option (List ℕ) → ℕ → Option (List ℕ)
left_at None byte = if is_line_feed byte then Some [] else None
left_at (Some line) byte = as_held (grown line byte)

-- what a line gives that ends with these bytes, of which this much was held
abbrev pub ended_by : Option (List ℕ) → List ℕ → List Line
ended_by None end = Over ∷ []
ended_by (Some line) end = given (line ++ end)

-- the lines that end in a piece, where this much is held before it
abbrev pub found_in : Option (List ℕ) → List ℕ → List Line
found_in held [] = []
found_in held (byte ∷ piece) = found_at held byte ++ found_in (left_at held byte) piece

-- what is held after it
abbrev pub left_by : Option (List ℕ) → List ℕ → Option (List ℕ)
left_by held [] = held
left_by held (byte ∷ piece) = left_by (left_at held byte) piece
