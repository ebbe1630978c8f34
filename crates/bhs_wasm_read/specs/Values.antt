-- The grammar of values in the binary format: bytes, numbers and names, read from the front of the bytes that are left.
use Rattle.std.specs.Prelude.{ℕ, zero, suc, ◌+◌, ◌-◌, ◌*◌, ◌%◌, ◌^◌, ◌≡◌, nat_lt, nat_le, List, [], ◌∷◌, ◌++◌}
use Rattle.std.specs.Prelude.{length, take, drop, Option, Some, None, Result, Ok, Err, if◌then◌else◌}
use Rattle.std.specs.Str.{is_utf8}
use Rattle.bhs_wasm_read.specs.declared.bytes.Bytes.{Bytes}
use Rattle.bhs_wasm_read.specs.declared.faults.FaultKind.{FaultKind}
use Rattle.bhs_wasm_read.specs.declared.faults.FaultKind.TheVariants as faults

-- a decoded value with the remaining bytes, or a fault
abbrev pub Read : Type 0 → Type 0
Read A = Result (A × List ℕ) FaultKind

-- A function returned what reading gives, its value seen by `view`, and left what reading leaves.
abbrev pub GivesAs : {A B : Type 0} → (A → B) → Read B → Result A FaultKind → (left : List ℕ) → Type 0
GivesAs view read (Ok value) left = read ≡ Ok (view value, left)
GivesAs view read (Err fault) left = read ≡ Err fault

abbrev pub Gives : {A : Type 0} → Read A → Result A FaultKind → (left : List ℕ) → Type 0
Gives read result left = GivesAs (λ value. value) read result left

-- The part around it and the place that a fault names stay.
pub record SamePlace (old new : Bytes) : Type 0 where
  pub behind : new.behind ≡ old.behind
  pub start : new.start ≡ old.start

-- what is read next, and then something that depends on it
abbrev pub then_read : {A B : Type 0} → Read A → (A → List ℕ → Read B) → Read B
then_read (Ok x) next = next x.0 x.1
then_read (Err fault) next = Err fault

abbrev pub byte : List ℕ → Read ℕ
byte [] = Err faults.End
byte (b ∷ rest) = Ok (b, rest)

-- the next `count` bytes
abbrev pub bytes : List ℕ → (count : ℕ) → Read (List ℕ)
bytes left count = if nat_lt (length left) count then Err faults.End else Ok (take count left, drop count left)

-- the next byte, which is not read
abbrev pub next : List ℕ → Read ℕ
next left = then_read (byte left) (λ b rest. Ok (b, left))

-- The next `count` bytes are a part: they alone are left to be read, and the value is what stands behind them.
abbrev pub part : List ℕ → (count : ℕ) → Read (List ℕ)
part left count = then_read (bytes left count) (λ taken rest. Ok (rest, taken))

-- The end of a part: its bytes are all read, and reading continues with `rest` after it.
abbrev pub rest_behind : (left rest : List ℕ) → Read (Unit {0})
rest_behind [] rest = Ok (tt, rest)
rest_behind (b ∷ left) rest = Err faults.Section

-- Decodes an unsigned LEB128 number below 2^bits. A byte below 2^7 ends the number and must be below 2^bits. Other
-- bytes contribute their lowest seven bits; the rest of the number has seven bits fewer.
unfoldable pub unsigned : List ℕ → (bits : ℕ) → Read ℕ
unsigned [] bits = Err faults.End
unsigned (b ∷ rest) bits =
    if nat_lt b (2 ^ 7) then (if nat_lt b (2 ^ bits) then Ok (b, rest) else Err faults.Number)
    else if nat_lt 7 bits then then_read (unsigned rest (bits - 7)) (λ n left. Ok (2 ^ 7 * n + (b - 2 ^ 7), left))
    else Err faults.Number

-- A signed number from -2^(bits-1) to below 2^(bits-1), in LEB128, modulo 2^64. The last byte b is the number b, or the
-- negative number b - 2^7 if b is not below 2^6, and lies in that range.
unfoldable pub signed : List ℕ → (bits : ℕ) → Read ℕ
signed [] bits = Err faults.End
signed (b ∷ rest) bits =
    if nat_lt b (2 ^ 6) then (if nat_lt b (2 ^ (bits - 1)) then Ok (b, rest) else Err faults.Number)
    else if nat_lt b (2 ^ 7) then
    (if nat_le (2 ^ 7) (b + 2 ^ (bits - 1)) then Ok (2 ^ 64 - (2 ^ 7 - b), rest) else Err faults.Number)
    else if nat_lt 7 bits then
    then_read (signed rest (bits - 7)) (λ n left. Ok ((2 ^ 7 * n + (b - 2 ^ 7)) % 2 ^ 64, left))
    else Err faults.Number

abbrev pub u32 : List ℕ → Read ℕ
u32 left = unsigned left 32

-- the same bits as an unsigned number
abbrev pub s32 : List ℕ → Read ℕ
s32 left = then_read (signed left 32) (λ n rest. Ok (n % 2 ^ 32, rest))

abbrev pub s64 : List ℕ → Read ℕ
s64 left = signed left 64

-- the number of a type, where a type of values could stand: a signed number of 33 bits, and not below 0
abbrev pub index_of_type : List ℕ → Read ℕ
index_of_type left = then_read (signed left 33) (λ n rest. if nat_lt n (2 ^ 32) then Ok (n, rest) else Err faults.Type)

-- a name: how many bytes it has, and the bytes, in UTF-8
abbrev pub name : List ℕ → Read (List ℕ)
name left = then_read (u32 left) (λ count behind. then_read (bytes behind count) (λ text rest.
    if is_utf8 text then Ok (text, rest) else Err faults.Name))

-- ---- what a function that returned Ok has read: a fault of a module's types and limits is not said

abbrev pub ReadsAs : {A B : Type 0} → (A → B) → Read B → Result A FaultKind → (left : List ℕ) → Type 0
ReadsAs view read (Ok value) left = read ≡ Ok (view value, left)
ReadsAs view read (Err fault) left = Unit {0}

-- the same of what a function has put elsewhere
abbrev pub ReadsTo : {A B : Type 0} → Read B → Result A FaultKind → (value : B) → (left : List ℕ) → Type 0
ReadsTo read (Ok x) value left = read ≡ Ok (value, left)
ReadsTo read (Err fault) value left = Unit {0}

-- Iterates a reader: each step starts with the previous step's value, at the byte after it.
unfoldable pub over : {A : Type 0} → (A → List ℕ → Read A) → (count : ℕ) → A → List ℕ → Read A
over step zero x left = Ok (x, left)
over step (suc count) x left = then_read (over step count x left) step

-- `count` things, one behind another
abbrev pub added : {A : Type 0} → (List ℕ → Read A) → List A → List ℕ → Read (List A)
added one xs left = then_read (one left) (λ x rest. Ok (xs ++ x ∷ [], rest))

abbrev pub times : {A : Type 0} → (List ℕ → Read A) → (count : ℕ) → List ℕ → Read (List A)
times one count left = over (added one) count [] left

-- continues with an optional value
abbrev pub given : {A B : Type 0} → Option A → (A → Read B) → Read B
given None then_do = Err faults.Index
given (Some x) then_do = then_do x
