-- Numbers as a script spells them.
use Rattle.std.specs.Prelude.{ℕ, ◌+◌, ◌-◌, ◌*◌, ◌^◌, ◌==◌, nat_lt, List, [], ◌∷◌, Option, None, Some, if◌then◌else◌}
use Rattle.std.specs.Char.{is_ascii_digit}

-- the number that decimal digits spell behind those that spell n; None if one of them is no digit
abbrev pub read_on : ℕ → List ℕ → Option ℕ
read_on n [] = Some n
read_on n (digit ∷ digits) = if is_ascii_digit digit then read_on (10 * n + (digit - 48)) digits else None

-- a number that has 32 bits
abbrev pub fitting : Option ℕ → Option ℕ
fitting None = None
fitting (Some n) = if nat_lt n (2 ^ 32) then Some n else None

-- the number that a text spells: one or more decimal digits without leading zeros, below 2^32
abbrev pub number : List ℕ → Option ℕ
number [] = None
number (digit ∷ []) = fitting (read_on 0 (digit ∷ []))
number (digit ∷ digits) = if digit == 48 then None else fitting (read_on 0 (digit ∷ digits))
