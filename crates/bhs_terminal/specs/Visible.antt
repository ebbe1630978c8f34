-- Texts of strangers as a terminal is to show them.
use Rattle.std.specs.Prelude.{ℕ, ◌+◌, ◌-◌, ◌/◌, ◌%◌, Bool, ◌&&◌, ◌||◌, ◌==◌, nat_lt, nat_le, List, [], ◌∷◌, ◌++◌}
use Rattle.std.specs.Prelude.{◌≡◌, if◌then◌else◌, not, codes, encode_utf8}
use Rattle.std.specs.Str.{chars}

-- a number between these two, both included
abbrev pub is_between : (first last : ℕ) → ℕ → Bool
is_between first last n = nat_le first n && nat_le n last

-- A character that controls a terminal, or turns the direction in which a text is shown: the control characters C0,
-- Delete and C1, and Unicode's controls of direction.
abbrev pub controls : (character : ℕ) → Bool
controls character =
    nat_le character 0x1f || (is_between 0x7f 0x9f character || (character == 0x61c
    || (is_between 0x200e 0x200f character || (is_between 0x202a 0x202e character
    || is_between 0x2066 0x2069 character))))

-- a byte of printable ASCII, which is a character of its own and controls nothing
abbrev pub is_plain : (byte : ℕ) → Bool
is_plain byte = is_between 0x20 0x7e byte

-- a hexadecimal digit
abbrev pub hex_digit : ℕ → ℕ
hex_digit n = if nat_lt n 10 then 48 + n else 97 + (n - 10)

-- a character below 2^16 as JSON may spell it in a string: `\u` and four hexadecimal digits
abbrev pub escaped : (character : ℕ) → List ℕ
escaped character =
    92 ∷ 117 ∷ hex_digit (character / 4096) ∷ hex_digit (character / 256 % 16) ∷ hex_digit (character / 16 % 16)
    ∷ hex_digit (character % 16) ∷ []

-- a line feed ends a line, and stays
abbrev pub visible_character : (character : ℕ) → List ℕ
visible_character character =
    if controls character && not (character == 10) then escaped character else encode_utf8 character

abbrev pub visible_all : (characters : List ℕ) → List ℕ
visible_all [] = []
visible_all (character ∷ others) = visible_character character ++ visible_all others

-- the lines, given as their bytes in UTF-8, with their control characters spelled as JSON may spell them
abbrev pub visible : (text : List ℕ) → List ℕ
visible text = visible_all (chars text)

-- worked examples on characters: a letter, a quotation mark, a character of many bytes and a line feed stay; Escape,
-- U+009B and U+202E are spelled
pub record WorkedExamples : Type 0 where
  pub stays : visible_all (97 ∷ 34 ∷ []) ≡ 97 ∷ 34 ∷ []
  pub long : visible_all (0x20ac ∷ []) ≡ 226 ∷ 130 ∷ 172 ∷ []
  pub feed : visible_all (10 ∷ []) ≡ 10 ∷ []
  pub escape : visible_all (0x1b ∷ []) ≡ codes "\\u001b"
  pub second_set : visible_all (0x9b ∷ []) ≡ codes "\\u009b"
  pub direction : visible_all (0x202e ∷ 97 ∷ []) ≡ codes "\\u202ea"
