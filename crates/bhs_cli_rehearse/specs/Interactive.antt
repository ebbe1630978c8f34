-- A rehearsal whose script is played as it comes: each of its lines is answered before more is read.
use Rattle.std.specs.Prelude.{◌≡◌, ◌≢◌, ◌⊎◌, ℕ, ◌+◌, ◌<◌, ◌≤◌, nat_lt, Bool, true, false, List, [], ◌∷◌, ◌++◌, length}
use Rattle.std.specs.Prelude.{if◌then◌else◌}
use Rattle.std.specs.List.{list_any}
use Rattle.bhs_model.specs.declared.limits.TheConstants.{MAX_TEXT}
use Rattle.bhs_stream.specs.Streams.{Chunk, Bytes, End, Fails, WriteAnswer}
use Rattle.bhs_stream.specs.Reading.{IsPiece}
use Rattle.bhs_stream.specs.Sending.{PutsAll, PutsPart}
use Rattle.bhs_wire.specs.Lines.{is_line_feed}
use Rattle.bhs_rehearsal.specs.Games.{Game}
use Rattle.bhs_rehearsal.specs.Stages.{Stage, step}
use Rattle.bhs_script.specs.Script.{Meaning, Skipped, Gives, Refused, meaning}
use Rattle.bhs_script.specs.Transcript.{all_printed}
use Rattle.bhs_cli.specs.declared.reporting.faults.Fault.{Fault}
use Rattle.bhs_cli.specs.declared.reporting.faults.Fault.TheVariants.{Read, Line, Write, Memory}
use Rattle.bhs_cli.specs.declared.reporting.faults.Fault.TheVariants.{Turns}
use Rattle.bhs_cli.specs.LineStates.{IsPart}

-- ---- one line

-- what a line means, in a rehearsal of this number of matches: one that is too long is refused
abbrev pub judged : (games : ℕ) → (line : List ℕ) → Meaning
judged games line = if nat_lt MAX_TEXT (length line) then Refused else meaning games line

-- what a line that means this is answered: what it sends, and an empty line
abbrev pub answer : Stage → Meaning → List ℕ
answer stage Skipped = 10 ∷ []
answer stage (Gives instruction) = all_printed (step stage instruction).outs ++ 10 ∷ []
answer stage Refused = []

-- the stage after a line
abbrev pub onward : Stage → Meaning → Stage
onward stage Skipped = stage
onward stage (Gives instruction) = (step stage instruction).stage
onward stage Refused = stage

-- ---- the progress of the rehearsal through its script

-- how it stands, how many lines were answered, and what was read behind them
pub record ScriptProgress : Type 0 where
  pub stage : Stage
  pub answered : ℕ
  pub held : List ℕ

abbrev pub at_start : Stage → ScriptProgress
at_start stage = record { stage = stage; answered = 0; held = [] }

-- This line is next, and these bytes were read after it.
pub record IsNext (progress : ScriptProgress) (line rest : List ℕ) : Type 0 where
  pub held : progress.held ≡ line ++ 10 ∷ rest
  pub first : list_any is_line_feed line ≡ false

-- more was read
abbrev pub with_piece : ScriptProgress → (piece : List ℕ) → ScriptProgress
with_piece progress piece = record progress { held = progress.held ++ piece }

-- a line was answered
abbrev pub behind_answer : (games : ℕ) → ScriptProgress → (line rest : List ℕ) → ScriptProgress
behind_answer games progress line rest = record {
  stage = onward progress.stage (judged games line);
  answered = progress.answered + 1;
  held = rest;
}

-- the end of the input ends its last line, if that has any byte
abbrev pub with_end : List ℕ → List ℕ
with_end [] = []
with_end (byte ∷ bytes) = (byte ∷ bytes) ++ 10 ∷ []

abbrev pub ended : ScriptProgress → ScriptProgress
ended progress = record progress { held = with_end progress.held }

-- the next line is refused, and this can be told: it has ended, or it is too long already
pub data IsRefused (games : ℕ) (progress : ScriptProgress) : Type 0 where
  unmeant : (line rest : List ℕ) → IsNext progress line rest → judged games line ≡ Refused → IsRefused games progress
  overlong : list_any is_line_feed progress.held ≡ false → MAX_TEXT < length progress.held → IsRefused games progress

-- ---- lines that were read are answered

module _ {O : Type 0} (takes : O → List ℕ → WriteAnswer → O → Type 0) (games : ℕ) where
  -- one after the other
  pub data Answers (progress : ScriptProgress) (output : O) : ScriptProgress → O → Type 0 where
    none : Answers progress output progress output
    more : (mid : ScriptProgress) (line rest : List ℕ) (there next : O) → Answers progress output mid there
        → IsNext mid line rest
        → judged games line ≢ Refused → PutsAll takes there (answer mid.stage (judged games line)) next
        → Answers progress output (behind_answer games mid line rest) next

  -- the next line was answered in part, and a write failed or took nothing
  pub record AnswersPart (progress : ScriptProgress) (output output' : O) : Type 0 where
    pub line : List ℕ
    pub rest : List ℕ
    pub next : IsNext progress line rest
    pub part : PutsPart takes output (answer progress.stage (judged games line)) output'

  module _ (flushes : O → Bool → O → Type 0) where
    -- The reason to stop answering at this point. If a line is refused, the output is flushed.
    abbrev pub BreaksAt : ScriptProgress → (output output' : O) → Fault → Type 0
    BreaksAt progress output output' (Line line) =
        IsRefused games progress × (line ≡ progress.answered + 1) × flushes output true output'
    BreaksAt progress output output' Write = flushes output false output' ⊎ AnswersPart progress output output'
    BreaksAt progress output output' Memory = output' ≡ output
    BreaksAt progress output output' fault = ⊥

    -- The same for an input line.
    pub record BreaksWithin (progress : ScriptProgress) (output output' : O) (fault : Fault) : Type 0 where
      pub here : ScriptProgress
      pub there : O
      pub answers : Answers progress output here there
      pub breaks : BreaksAt here there output' fault

-- ---- the whole rehearsal

-- the calls of the input and of the output, how many reads may be made, and how the rehearsal begins
module _ {I O : Type 0} (gives : I → Chunk → I → Type 0) (takes : O → List ℕ → WriteAnswer → O → Type 0)
    (flushes : O → Bool → O → Type 0) (turns : ℕ) (stage : Stage) (input : I) (output : O) where
  -- how many reads were made, whether the last brought the end, and where the rehearsal is
  pub data Interacts : (reads : ℕ) → (is_over : Bool) → ScriptProgress → I → O → Type 0 where
    begins : Interacts 0 false (at_start stage) input output
    -- All complete lines are answered, and the answers are flushed. Then a read gives further bytes.
    reads_more : (reads : ℕ) (progress : ScriptProgress) (piece : List ℕ) (here next : I) (there passed : O)
        → Interacts reads false progress here there → IsPart progress.held → flushes there true passed
        → reads < turns → IsPiece piece → gives here (Bytes piece) next
        → Interacts (reads + 1) false (with_piece progress piece) next passed
    -- the same, and a read brings the end
    reads_end : (reads : ℕ) (progress : ScriptProgress) (here next : I) (there passed : O)
        → Interacts reads false progress here there → IsPart progress.held → flushes there true passed
        → reads < turns → gives here End next → Interacts (reads + 1) true (ended progress) next passed
    -- the next line is answered
    answers : (reads : ℕ) (is_over : Bool) (progress : ScriptProgress) (line rest : List ℕ) (here : I) (there next : O)
        → Interacts reads is_over progress here there → IsNext progress line rest
        → judged (length stage.games) line ≢ Refused
        → PutsAll takes there (answer progress.stage (judged (length stage.games) line)) next
        → Interacts reads is_over (behind_answer (length stage.games) progress line rest) here next

  -- all lines to the end of the input were answered, this was passed on, and the matches stand so
  pub record InteractsToEnd (input' : I) (output' : O) (games : List Game) : Type 0 where
    pub reads : ℕ
    pub progress : ScriptProgress
    pub there : O
    pub interacts : Interacts reads true progress input' there
    pub all : progress.held ≡ []
    pub passed : flushes there true output'
    pub left : games ≡ progress.stage.games

  -- the rehearsal came so far, and then this fault ended it
  pub record Breaks (input' : I) (output' : O) (fault : Fault) : Type 0 where
    pub reads : ℕ
    pub is_over : Bool
    pub progress : ScriptProgress
    pub there : O
    pub interacts : Interacts reads is_over progress input' there
    pub breaks : BreaksAt takes (length stage.games) flushes progress there output' fault

  -- all lines that were read were answered and this was passed on, and then the read failed
  pub record FailsToRead (input' : I) (output' : O) : Type 0 where
    pub reads : ℕ
    pub progress : ScriptProgress
    pub here : I
    pub there : O
    pub interacts : Interacts reads false progress here there
    pub is_part : IsPart progress.held
    pub passed : flushes there true output'
    pub turn_left : reads < turns
    pub fails : gives here Fails input'

  -- all lines that were read were answered, and no read was left
  pub record HasNoReadLeft (input' : I) (output' : O) : Type 0 where
    pub progress : ScriptProgress
    pub interacts : Interacts turns false progress input' output'
    pub is_part : IsPart progress.held

  -- what a fault means and leaves
  abbrev pub InteractionStops : (input' : I) → (output' : O) → Fault → Type 0
  InteractionStops input' output' Read = FailsToRead input' output'
  InteractionStops input' output' Turns = HasNoReadLeft input' output'
  InteractionStops input' output' fault = Breaks input' output' fault
