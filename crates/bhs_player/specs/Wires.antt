-- The states of a wire before and after a line is written or read.
use Rattle.std.specs.Prelude.{◌≡◌, ℕ, Bool, true, false, ◌⊎◌, List, [], ◌∷◌, ◌++◌}
use Rattle.std.specs.List.{list_any}
use Rattle.bhs_stream.specs.Reading.{Gathers}
use Rattle.bhs_stream.specs.Sending.{PutsAll, PutsPart}
use Rattle.bhs_stream.specs.Streams.{Chunk, WriteAnswer}
use Rattle.bhs_wire.specs.Lines.{is_line_feed}
use Rattle.bhs_player.specs.declared.wire.Wire.{Wire}

-- a line and its line feed
abbrev pub ended : (line : List ℕ) → List ℕ
ended line = line ++ 10 ∷ []

-- nothing was read, and what is held stays
abbrev pub ReadsNothing : {R W : Type 0} → (old new : Wire R W) → Type 0
ReadsNothing old new = (new.reader ≡ old.reader) × (new.held ≡ old.held)

module _ {R W : Type 0} (takes : W → List ℕ → WriteAnswer → W → Type 0) (flushes : W → Bool → W → Type 0) where
  -- the output took the line and a line feed and nothing else, and passed them on; nothing was read
  abbrev pub IsSaid : (old : Wire R W) → (line : List ℕ) → (new : Wire R W) → Type 0
  IsSaid old line new = ReadsNothing old new
      × ((put : W) × PutsAll takes old.writer (ended line) put × flushes put true new.writer)

  -- The line was not written whole: not begun, or its output took a front of it and of its line feed, or did not pass
  -- them on. Nothing was read.
  abbrev pub IsCut : (old : Wire R W) → (line : List ℕ) → (new : Wire R W) → Type 0
  IsCut old line new = ReadsNothing old new
      × ((new.writer ≡ old.writer) ⊎ (PutsPart takes old.writer (ended line) new.writer
      ⊎ ((put : W) × PutsAll takes old.writer (ended line) put × flushes put false new.writer)))

-- What was held and what reads gave is the line, its line feed, and what is held then; nothing was written.
pub record IsHeard {R W : Type 0} (gives : R → Chunk → R → Type 0) (old : Wire R W) (line : List ℕ) (new : Wire R W)
    : Type 0 where
  pub writer : new.writer ≡ old.writer
  pub flat : list_any is_line_feed line ≡ false
  pub reads : ℕ
  pub bytes : List ℕ
  pub gathered : Gathers gives old.reader reads bytes new.reader
  pub parts : old.held.items ++ bytes ≡ ended line ++ new.held.items

-- Nothing was written, where no line came. The definition says nothing of the input: a line may have been cut off.
abbrev pub IsUnheard : {R W : Type 0} → (old new : Wire R W) → Type 0
IsUnheard old new = new.writer ≡ old.writer
