-- What one call of an input or an output answers.
use Rattle.std.specs.Prelude.{ℕ, Bool, true, false, List, [], ◌∷◌, take, Ok, Err}
use Rattle.std.specs.declared.result.Result.{Result}
use Rattle.std.specs.declared.option.Option.{Option}
use Rattle.std.specs.Io.KnownBytes.{Consumes, Appends, Keeps, IsAtEnd}

-- what a read brings
pub data Chunk : Type 0 where
  -- some bytes
  Bytes : (bytes : List ℕ) → Chunk
  -- the end of the input: no byte is left
  End : Chunk
  -- the read failed
  Fails : Chunk

abbrev pub chunk_by : List ℕ → Chunk
chunk_by [] = End
chunk_by (byte ∷ more) = Bytes (byte ∷ more)

-- what `read_some` brought, in the front of a buffer
abbrev pub chunk_of : {E : Type 0} → Result ℕ E → List ℕ → Chunk
chunk_of (Ok count) buffer = chunk_by (take count buffer)
chunk_of (Err error) buffer = Fails

-- what a write answers
pub data WriteAnswer : Type 0 where
  -- The writer took this number of bytes, possibly 0.
  Takes : (count : ℕ) → WriteAnswer
  -- the write failed
  Refuses : WriteAnswer

abbrev pub taken_by : {E : Type 0} → Result ℕ E → WriteAnswer
taken_by (Ok count) = Takes count
taken_by (Err error) = Refuses

-- whether a flush succeeded
abbrev pub went : {T E : Type 0} → Result T E → Bool
went (Ok done) = true
went (Err error) = false

-- ---- where the bytes of a reader or a writer are known

abbrev pub Gives : Option (List ℕ) → Chunk → Option (List ℕ) → Type 0
Gives old (Bytes bytes) new = Consumes old new bytes
Gives old End new = Consumes old new [] × IsAtEnd new
Gives old Fails new = Keeps old new

abbrev pub TakesKnown : Option (List ℕ) → List ℕ → WriteAnswer → Option (List ℕ) → Type 0
TakesKnown old bytes (Takes count) new = Appends old new (take count bytes)
TakesKnown old bytes Refuses new = Keeps old new

-- a read of an input whose bytes are known, and a write to an output whose bytes are known
abbrev pub known_gives : {R : Type 0} → (R → Option (List ℕ)) → R → Chunk → R → Type 0
known_gives remaining old chunk new = Gives (remaining old) chunk (remaining new)

abbrev pub known_takes : {W : Type 0} → (W → Option (List ℕ)) → W → List ℕ → WriteAnswer → W → Type 0
known_takes contents old bytes answer new = TakesKnown (contents old) bytes answer (contents new)
