-- What the instructions on integers compute: numbers of 32 or 64 bits, as the standard says.
use Rattle.std.specs.Prelude.{ℕ, ◌+◌, ◌-◌, ◌*◌, ◌/◌, ◌%◌, ◌^◌, ◌==◌, ◌&&◌, Bool, true, false, not, nat_lt, nat_le}
use Rattle.std.specs.Prelude.{Option, Some, None, if◌then◌else◌, bit_and, bit_or, bit_xor, int_lt, int_le}
use Rattle.std.specs.Int.{Width, w32, w64, rotate_left, rotate_right, leading_zeros, trailing_zeros}
use Rattle.std.specs.Int.{cast_signed, cast_unsigned, int_shr}
use Rattle.std.specs.Int.RustNames.{count_ones, int_div, int_rem}
use Rattle.bhs_wasm.specs.declared.operators.Unary.{Unary}
use Rattle.bhs_wasm.specs.declared.operators.Unary.TheVariants as one
use Rattle.bhs_wasm.specs.declared.operators.Binary.{Binary}
use Rattle.bhs_wasm.specs.declared.operators.Binary.TheVariants as two

-- how many numbers a width has
abbrev pub count_of : Width → ℕ
count_of w32 = 2 ^ 32
count_of w64 = 2 ^ 64
count_of width = 0

-- how many bits
abbrev pub bits_of : Width → ℕ
bits_of w32 = 32
bits_of w64 = 64
bits_of width = 0

-- 1 for yes
abbrev pub of_bool : Bool → ℕ
of_bool true = 1
of_bool false = 0

-- a number whose sign is worth so much, with copies of the sign in front of it
abbrev pub extended : Width → (low sign : ℕ) → ℕ
extended w low sign = if nat_lt low sign then low else low + (count_of w - 2 * sign)

-- of one number
abbrev pub unary : Width → Unary → ℕ → ℕ
unary w one.Clz a = leading_zeros w a
unary w one.Ctz a = trailing_zeros w a
unary w one.Popcnt a = count_ones a
unary w one.Eqz a = of_bool (a == 0)
unary w one.Extend8 a = extended w (a % 2 ^ 8) (2 ^ 7)
unary w one.Extend16 a = extended w (a % 2 ^ 16) (2 ^ 15)
unary w one.Extend32 a = extended w (a % 2 ^ 32) (2 ^ 31)
unary w one.Wrap a = a % 2 ^ 32

-- of two numbers; None if the instruction traps
abbrev pub binary : Width → Binary → ℕ → ℕ → Option ℕ
binary w two.Add a b = Some ((a + b) % count_of w)
binary w two.Sub a b = Some ((a + (count_of w - b)) % count_of w)
binary w two.Mul a b = Some ((a * b) % count_of w)
binary w two.DivU a b = if b == 0 then None else Some (a / b)
binary w two.RemU a b = if b == 0 then None else Some (a % b)
binary w two.DivS a b = if b == 0 then None else if b == count_of w - 1 && a == count_of w / 2 then None
    else Some (cast_unsigned w (int_div (cast_signed w a) (cast_signed w b)))
binary w two.RemS a b = if b == 0 then None else if b == count_of w - 1 then Some 0
    else Some (cast_unsigned w (int_rem (cast_signed w a) (cast_signed w b)))
binary w two.And a b = Some (bit_and a b)
binary w two.Or a b = Some (bit_or a b)
binary w two.Xor a b = Some (bit_xor a b)
binary w two.Shl a b = Some ((a * 2 ^ (b % bits_of w)) % count_of w)
binary w two.ShrS a b = Some (cast_unsigned w (int_shr (cast_signed w a) (b % bits_of w)))
binary w two.ShrU a b = Some (a / 2 ^ (b % bits_of w))
binary w two.Rotl a b = Some (rotate_left w a b)
binary w two.Rotr a b = Some (rotate_right w a b)
binary w two.Eq a b = Some (of_bool (a == b))
binary w two.Ne a b = Some (of_bool (not (a == b)))
binary w two.LtS a b = Some (of_bool (int_lt (cast_signed w a) (cast_signed w b)))
binary w two.LtU a b = Some (of_bool (nat_lt a b))
binary w two.GtS a b = Some (of_bool (int_lt (cast_signed w b) (cast_signed w a)))
binary w two.GtU a b = Some (of_bool (nat_lt b a))
binary w two.LeS a b = Some (of_bool (int_le (cast_signed w a) (cast_signed w b)))
binary w two.LeU a b = Some (of_bool (nat_le a b))
binary w two.GeS a b = Some (of_bool (int_le (cast_signed w b) (cast_signed w a)))
binary w two.GeU a b = Some (of_bool (nat_le b a))
