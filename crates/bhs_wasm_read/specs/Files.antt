-- A module's file: its head, and then sections in order. A section is its number, its length and its bytes.
use Rattle.std.specs.Prelude.{ℕ, zero, suc, ◌+◌, ◌==◌, ◌≡◌, Bool, true, false, nat_eq, nat_lt, List, [], ◌∷◌}
use Rattle.std.specs.Prelude.{Option, Some, None, Ok, Err, if◌then◌else◌, position}
use Rattle.std.specs.List.{starts_with}
use Rattle.bhs_wasm_read.specs.declared.faults.FaultKind.TheVariants as faults
use Rattle.bhs_wasm_read.specs.declared.faults.ModuleFault.{ModuleFault}
use Rattle.bhs_wasm_read.specs.declared.faults.ModuleFault.TheVariants as refused
use Rattle.bhs_wasm_read.specs.Values.{Read, then_read, byte, u32, part, name}

-- the magic number and the version: \0asm, 1
abbrev pub head : List ℕ
head = 0 ∷ 97 ∷ 115 ∷ 109 ∷ 1 ∷ 0 ∷ 0 ∷ 0 ∷ []

abbrev pub has_head : List ℕ → Bool
has_head file = starts_with nat_eq file head

-- the byte at which a file is refused
abbrev pub place_of : ModuleFault → ℕ
place_of refused.Head = 0
place_of (refused.Inside kind at import) = at

-- the order of sections by their numbers: types, imports, functions, tables, memories, globals, exports, the start,
-- elements, the number of data segments, code, data
abbrev pub order : List ℕ
order = 1 ∷ 2 ∷ 3 ∷ 4 ∷ 5 ∷ 6 ∷ 7 ∷ 8 ∷ 9 ∷ 12 ∷ 10 ∷ 11 ∷ []

-- a section's rank in the order, counted from 1
abbrev pub placed : Option ℕ → Option ℕ
placed None = None
placed (Some at) = Some (at + 1)

abbrev pub rank : (number : ℕ) → Option ℕ
rank number = placed (position (λ other. other == number) order)

-- a section of a rank stands behind those of lower ranks
abbrev pub behind : (last : ℕ) → Option ℕ → (rest : List ℕ) → Read ℕ
behind last None rest = Err faults.Section
behind last (Some own) rest = if nat_lt last own then Ok (own, rest) else Err faults.Section

-- A section of number 0 begins with a name, and may stand anywhere.
abbrev pub ranked : (last number : ℕ) → (held rest : List ℕ) → Read ℕ
ranked last number held rest =
    if number == 0 then then_read (name held) (λ _ _. Ok (last, rest)) else behind last (rank number) rest

-- Reads a section that comes after a rank: gives its own rank, and the bytes after it.
abbrev pub section : (last : ℕ) → List ℕ → Read ℕ
section last left = then_read (byte left) (λ number sized. then_read (u32 sized) (λ count behind_it.
    then_read (part behind_it count) (λ rest held. ranked last number held rest)))

-- tests a number that was read and the bytes after it
abbrev pub passes : Read ℕ → (ℕ → List ℕ → Bool) → Bool
passes (Ok x) test = test x.0 x.1
passes (Err fault) test = false

-- `count` sections in order, and nothing behind them
unfoldable pub are_sections : (count last : ℕ) → List ℕ → Bool
are_sections zero last [] = true
are_sections zero last (b ∷ left) = false
are_sections (suc count) last left = passes (section last left) (λ own rest. are_sections count own rest)

abbrev pub AreInOrder : List ℕ → Type 0
AreInOrder left = (count : ℕ) × (are_sections count 0 left ≡ true)
