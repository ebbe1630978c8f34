-- What a table of a file says at a key, or the fault of the file.
use Rattle.std.specs.Prelude.{◌≡◌, ℕ, Option, Some, None, Result, Ok, Err}
use Rattle.std.specs.Option.{option_map_or}
use Rattle.toml.specs.Data.{Data, Members, get_member}
use Rattle.bhs_files.specs.declared.file_keys.FileKey.{FileKey}
use Rattle.bhs_files.specs.declared.faults.FileFault.{FileFault}
use Rattle.bhs_files.specs.declared.faults.FileFault.TheVariants.{Missing, Shape, Memory}
use Rattle.bhs_files.specs.Words.{word}

-- the first fault stands, and else what follows is read
infixl 10 ◌>>=◌
abbrev pub ◌>>=◌ : {A B : Type 0} → Result A FileFault → (A → Result B FileFault) → Result B FileFault
(Ok x) >>= f = f x
(Err fault) >>= f = Err fault

-- what a function returned, seen by view, is what is read
abbrev pub Gives : {X Y : Type 0} → (X → Y) → Result X FileFault → Result Y FileFault → Type 0
Gives view (Ok x) reading = reading ≡ Ok (view x)
Gives view (Err fault) reading = reading ≡ Err fault

-- why it returned a fault: memory ran out, or the fault is what is read
abbrev pub Fails : {Y : Type 0} → FileFault → Result Y FileFault → Type 0
Fails Memory reading = Unit {0}
Fails fault reading = reading ≡ Err fault

-- what a function returned, seen by view, is what is read, unless memory ran out
abbrev pub GivesUnlessMemory : {X Y : Type 0} → (X → Y) → Result X FileFault → Result Y FileFault → Type 0
GivesUnlessMemory view (Ok x) reading = reading ≡ Ok (view x)
GivesUnlessMemory view (Err fault) reading = Fails fault reading

-- The value of a required key, or the fault that it is absent.
abbrev pub present : Option ℕ → FileKey → Option Data → Result Data FileFault
present game key None = Err (Missing game key)
present game key (Some found) = Ok found

-- a value in the shape of its key
abbrev pub shaped : {A : Type 0} → Option ℕ → FileKey → Option A → Result A FileFault
shaped game key None = Err (Shape game key)
shaped game key (Some value) = Ok value

-- the parsed value of a required key
abbrev pub required : {A : Type 0} → Option ℕ → FileKey → (Data → Option A) → Members → Result A FileFault
required game key shape members = present game key (get_member (word key) members) >>= λ found.
    shaped game key (shape found)

-- the value of a key that the table may lack
abbrev pub optional : {A : Type 0} → Option ℕ → FileKey → (Data → Option A) → A → Members → Result A FileFault
optional game key shape default members = option_map_or (λ found. shaped game key (shape found))
    (get_member (word key) members) (Ok default)
