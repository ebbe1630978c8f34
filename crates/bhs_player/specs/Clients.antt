-- What went over the wire of a client that has played to its end.
use Rattle.std.specs.Prelude.{◌≡◌, ℕ, Bool, true, List, [], ◌++◌}
use Rattle.bhs_stream.specs.Reading.{Gathers}
use Rattle.bhs_stream.specs.Sending.{PutsAll}
use Rattle.bhs_stream.specs.Streams.{Chunk, WriteAnswer}
use Rattle.bhs_schedules.specs.Strategies.{Strategy}
use Rattle.bhs_client.specs.declared.player.PlayEnd.{PlayEnd}
use Rattle.bhs_client.specs.Talks.{Ends}
use Rattle.bhs_client.specs.Transcripts.{Transcript, unused, Writes, Reads}
use Rattle.bhs_player.specs.declared.wire.Wire.{Wire}
use Rattle.bhs_player.specs.Wires.{IsHeard, IsSaid}

-- an output took these bytes and passed them on, piece by piece, and is in this state
pub data Sends {W : Type 0} (takes : W → List ℕ → WriteAnswer → W → Type 0) (flushes : W → Bool → W → Type 0)
    (start : W) : List ℕ → W → Type 0 where
  sends_nothing : Sends takes flushes start [] start
  sends_more : (bytes piece : List ℕ) (here put next : W) → Sends takes flushes start bytes here
      → PutsAll takes here piece put → flushes put true next
      → Sends takes flushes start (bytes ++ piece) next

-- the output of a wire took what was said, and its input gave what was heard, and what is held behind it
pub record IsTranscript {R W : Type 0} (gives : R → Chunk → R → Type 0) (takes : W → List ℕ → WriteAnswer → W → Type 0)
    (flushes : W → Bool → W → Type 0) (old new : Wire R W) (transcript : Transcript) : Type 0 where
  pub sent : Sends takes flushes old.writer transcript.said new.writer
  pub reads : ℕ
  pub given : Gathers gives old.reader reads (transcript.heard ++ new.held.items) new.reader

-- Let a client have played an agent to its end over a wire that held nothing at first. Then the bytes that went over
-- the wire are the transcript of an agent that says what its strategy says, line by line, wakes no more than `wakeups`
-- + 1 times in a row, and ends in this way.
abbrev pub ClientsTalk : {R W : Type 0} → (gives : R → Chunk → R → Type 0)
    → (takes : W → List ℕ → WriteAnswer → W → Type 0) → (flushes : W → Bool → W → Type 0) → Type 0
ClientsTalk {R} {W} gives takes flushes =
    (wakeups : ℕ) (strategy : Strategy) (key : List ℕ) (old : Wire R W) (how : PlayEnd) (new : Wire R W)
    → old.held.items ≡ [] → Ends (IsSaid takes flushes) (IsHeard gives) wakeups strategy key old how new
    → (transcript : Transcript) × Ends Writes Reads wakeups strategy key unused how transcript
    × IsTranscript gives takes flushes old new transcript
