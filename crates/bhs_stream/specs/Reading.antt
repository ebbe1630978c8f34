-- The sequence of reads of a text.
use Rattle.std.specs.Prelude.{◌≡◌, ℕ, ◌+◌, ◌<◌, ◌≤◌, List, [], ◌++◌, length}
use Rattle.bhs_stream.specs.declared.reader.TheConstants.{BUFFER}
use Rattle.bhs_stream.specs.declared.reader.ReadFault.{ReadFault}
use Rattle.bhs_stream.specs.declared.reader.ReadFault.TheVariants as faults
use Rattle.bhs_stream.specs.Streams.{Chunk, Bytes, Fails}

-- what one read brings, where it brings bytes
abbrev pub IsPiece : List ℕ → Type 0
IsPiece piece = (0 < length piece) × (length piece ≤ BUFFER)

-- by this number of reads, each of which brought bytes, these bytes came, and the input is in this state
pub data Gathers {I : Type 0} (gives : I → Chunk → I → Type 0) (start : I) : (reads : ℕ) → List ℕ → I → Type 0 where
  begins : Gathers gives start 0 [] start
  goes_on : (reads : ℕ) (bytes piece : List ℕ) (here next : I) → Gathers gives start reads bytes here → IsPiece piece
      → gives here (Bytes piece) next
      → Gathers gives start (reads + 1) (bytes ++ piece) next

-- bytes came that fit the limit, a turn was left, and the next read, the last one, brought this
pub record Closes {I : Type 0} (gives : I → Chunk → I → Type 0) (old : I) (limit turns : ℕ) (bytes : List ℕ)
    (chunk : Chunk) (new : I) : Type 0 where
  pub reads : ℕ
  pub before : I
  pub gathered : Gathers gives old reads bytes before
  pub turn_left : reads < turns
  pub fits : length bytes ≤ limit
  pub last : gives before chunk new

-- The last read exceeded the limit, or found no memory for its bytes.
pub record Overruns {I : Type 0} (gives : I → Chunk → I → Type 0) (old : I) (limit turns : ℕ) (whole : List ℕ)
    (new : I) : Type 0 where
  pub bytes : List ℕ
  pub piece : List ℕ
  pub is_piece : IsPiece piece
  pub closes : Closes gives old limit turns bytes (Bytes piece) new
  pub joined : whole ≡ bytes ++ piece

-- how the reads of a text decide which fault is answered
abbrev pub EndsBy : {I : Type 0} → (I → Chunk → I → Type 0) → (old : I) → (limit turns : ℕ) → ReadFault
    → (new : I) → Type 0
EndsBy gives old limit turns faults.Read new = (bytes : List ℕ) × Closes gives old limit turns bytes Fails new
EndsBy gives old limit turns faults.Text new = (whole : List ℕ) × (limit < length whole)
    × Overruns gives old limit turns whole new
EndsBy gives old limit turns faults.Memory new = (whole : List ℕ) × (length whole ≤ limit)
    × Overruns gives old limit turns whole new
EndsBy gives old limit turns faults.Turns new = (bytes : List ℕ) × (length bytes ≤ limit)
    × Gathers gives old turns bytes new
