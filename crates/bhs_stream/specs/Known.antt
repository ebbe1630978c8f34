-- What a reader's known bytes say of a text that was not read, and a writer's of bytes that did not all go out.
use Rattle.std.specs.Prelude.{ℕ, ◌+◌, ◌*◌, ◌<◌, ◌≤◌, List, length, take}
use Rattle.std.specs.declared.option.Option.{Option}
use Rattle.std.specs.Io.KnownBytes.{Appends}
use Rattle.bhs_stream.specs.declared.reader.TheConstants.{BUFFER}
use Rattle.bhs_stream.specs.declared.reader.ReadFault.{ReadFault}
use Rattle.bhs_stream.specs.declared.reader.ReadFault.TheVariants.{Read, Text, Memory, Turns}

-- ---- written

-- known bytes grow by the first of these, and the last of them is missing
pub record AppendsPart (old new : Option (List ℕ)) (bytes : List ℕ) : Type 0 where
  pub count : ℕ
  pub short : count < length bytes
  pub grown : Appends old new (take count bytes)

-- ---- read

-- this number of reads can have given the bytes: each gives at least one byte, and at most a full buffer
abbrev pub GivenBy : ℕ → List ℕ → Type 0
GivenBy reads bytes = (reads ≤ length bytes) × (length bytes ≤ reads * BUFFER)

-- no more than `turns` reads gave the bytes
abbrev pub GivenWithin : ℕ → List ℕ → Type 0
GivenWithin turns bytes = (reads : ℕ) × (reads ≤ turns) × GivenBy reads bytes

-- fewer than `turns` reads gave the bytes, so that a turn was left for the read that ended the reading
abbrev pub GivenBefore : ℕ → List ℕ → Type 0
GivenBefore turns bytes = (reads : ℕ) × (reads < turns) × GivenBy reads bytes

-- The bytes read before a fault ended the reading, under a limit and a number of turns. A failed read gave no bytes.
-- The read that exceeded the limit is the last. Memory ran out for bytes that had arrived. The turns ran out after
-- reads that each gave bytes.
abbrev pub StoppedBy : ReadFault → ℕ → ℕ → List ℕ → Type 0
StoppedBy Read limit turns bytes = (length bytes ≤ limit) × GivenBefore turns bytes
StoppedBy Text limit turns bytes = (limit < length bytes) × (length bytes ≤ limit + BUFFER) × GivenWithin turns bytes
StoppedBy Memory limit turns bytes = (0 < length bytes) × (length bytes ≤ limit) × GivenWithin turns bytes
StoppedBy Turns limit turns bytes = (length bytes ≤ limit) × GivenBy turns bytes
