-- What a script means: the instructions that its lines give.
use Rattle.std.specs.Prelude.{ℕ, ◌+◌, ◌==◌, Bool, List, [], ◌∷◌, ◌++◌, take, drop, nat_lt, bytes_eq, codes, Option}
use Rattle.std.specs.Prelude.{None, Some, option_map, option_and_then, Result, Ok, Err, if◌then◌else◌}
use Rattle.std.specs.List.{position}
use Rattle.std.specs.Result.{result_ok}
use Rattle.hex.specs.Hex.{decode_of}
use Rattle.bhs_wire.specs.Lines.{is_line_feed}
use Rattle.bhs_rehearsal.specs.Stages.{Instruction, Feeds, EndsInput, Draws, Delivers, Closes}
use Rattle.bhs_script.specs.declared.instructions.TheConstants.{AGENTS, CONNECTIONS}
use Rattle.bhs_script.specs.Number.{number}

-- ---- lines

-- a byte put before the first line
abbrev pub onto_first : ℕ → List (List ℕ) → List (List ℕ)
onto_first byte [] = (byte ∷ []) ∷ []
onto_first byte (line ∷ lines) = (byte ∷ line) ∷ lines

-- the lines of a script: what stands before, between and behind its line feeds
abbrev pub lines_of : List ℕ → List (List ℕ)
lines_of [] = [] ∷ []
lines_of (byte ∷ bytes) = if is_line_feed byte then [] ∷ lines_of bytes else onto_first byte (lines_of bytes)

-- ---- what a line means

abbrev pub is_space : ℕ → Bool
is_space byte = byte == 32

-- splits a line at its first space; None without a space
abbrev pub parted : List ℕ → Option (List ℕ × List ℕ)
parted text = option_map (λ end. (take end text, drop (end + 1) text)) (position is_space text)

-- the number that a text spells, if it is less than the bound
abbrev pub less_than : ℕ → ℕ → Option ℕ
less_than bound n = if nat_lt n bound then Some n else None

abbrev pub number_below : (bound : ℕ) → List ℕ → Option ℕ
number_below bound text = option_and_then (less_than bound) (number text)

-- the bytes that hexadecimal digits give, two digits a byte, at least one byte
abbrev pub bytes_of : List ℕ → Option (List ℕ)
bytes_of [] = None
bytes_of (digit ∷ digits) = result_ok (decode_of (digit ∷ digits))

-- Monadic bind of options: applies the second function to the result of the first.
infixl 10 ◌>>=◌
abbrev pub ◌>>=◌ : {A B : Type 0} → Option A → (A → Option B) → Option B
option >>= next = option_and_then next option

-- `N REST` feeds REST and a line feed to connection N
abbrev pub feeds_line : (word rest : List ℕ) → Option Instruction
feeds_line word rest = do
  conn ← number_below CONNECTIONS word
  Some (Feeds conn (rest ++ 10 ∷ []))

-- `hex N DIGITS` feeds it the bytes that the digits give
abbrev pub feeds_bytes : (rest : List ℕ) → Option Instruction
feeds_bytes rest = do
  parts ← parted rest
  conn ← number_below CONNECTIONS parts.0
  bytes ← bytes_of parts.1
  Some (Feeds conn bytes)

-- `end N` ends its input
abbrev pub ends_input : (rest : List ℕ) → Option Instruction
ends_input rest = do
  conn ← number_below CONNECTIONS rest
  Some (EndsInput conn)

-- `draw G W` draws in match G with the word W
abbrev pub draws : (games : ℕ) → (rest : List ℕ) → Option Instruction
draws games rest = do
  parts ← parted rest
  game ← number_below games parts.0
  word ← number parts.1
  Some (Draws game word)

-- `deliver G A` delivers agent A of match G
abbrev pub deliveries : (games : ℕ) → (rest : List ℕ) → Option Instruction
deliveries games rest = do
  parts ← parted rest
  game ← number_below games parts.0
  agent ← number_below AGENTS parts.1
  Some (Delivers game agent)

-- `close G` ends match G
abbrev pub closes : (games : ℕ) → (rest : List ℕ) → Option Instruction
closes games rest = do
  game ← number_below games rest
  Some (Closes game)

-- a line by its first word and what stands behind the space after it
abbrev pub instruction_by : (games : ℕ) → (word rest : List ℕ) → Option Instruction
instruction_by games word rest =
    if bytes_eq word (codes "hex") then feeds_bytes rest
    else (if bytes_eq word (codes "end") then ends_input rest
    else (if bytes_eq word (codes "draw") then draws games rest
    else (if bytes_eq word (codes "deliver") then deliveries games rest
    else (if bytes_eq word (codes "close") then closes games rest
    else feeds_line word rest))))

-- the instruction of a line, in a rehearsal with this number of matches; None if the line is invalid
abbrev pub instruction_in : (games : ℕ) → List ℕ → Option Instruction
instruction_in games line = do
  parts ← parted line
  instruction_by games parts.0 parts.1

-- what a line means: it is skipped, it gives an instruction, or it is refused
pub data Meaning : Type 0 where
  Skipped : Meaning
  Gives : Instruction → Meaning
  Refused : Meaning

abbrev pub gives_if : Option Instruction → Meaning
gives_if None = Refused
gives_if (Some instruction) = Gives instruction

-- an empty line and one that begins with `#` are skipped
abbrev pub meaning : (games : ℕ) → List ℕ → Meaning
meaning games [] = Skipped
meaning games (byte ∷ bytes) = if byte == 35 then Skipped else gives_if (instruction_in games (byte ∷ bytes))

-- ---- the whole script

-- prepends an instruction, unless the remaining script is refused
abbrev pub before : Instruction → Result (List Instruction) ℕ → Result (List Instruction) ℕ
before instruction (Ok others) = Ok (instruction ∷ others)
before instruction (Err line) = Err line

-- Prepends the instruction of a line to those of the later lines; an invalid line refuses the whole script.
abbrev pub with_meaning : (place : ℕ) → Meaning → Result (List Instruction) ℕ → Result (List Instruction) ℕ
with_meaning place Skipped others = others
with_meaning place (Gives instruction) others = before instruction others
with_meaning place Refused others = Err place

-- The instructions of these lines, the first of which has the number `place`, or the number of the first invalid line.
abbrev pub instructions_from : (games place : ℕ) → List (List ℕ) → Result (List Instruction) ℕ
instructions_from games place [] = Ok []
instructions_from games place (line ∷ lines) =
    with_meaning place (meaning games line) (instructions_from games (place + 1) lines)

-- the instructions of a script, or its first line that is refused, counted from 1
abbrev pub instructions_of : (games : ℕ) → List ℕ → Result (List Instruction) ℕ
instructions_of games script = instructions_from games 1 (lines_of script)
