-- What a rehearsal whose script is played as it comes has read and written, where the bytes of its input and its output
-- are known.
use Rattle.std.specs.Prelude.{◌≡◌, ◌⊎◌, ℕ, Bool, List, [], ◌∷◌, ◌++◌, length, Ok}
use Rattle.std.specs.declared.option.Option.{Option}
use Rattle.std.specs.Io.KnownBytes.{Appends, Consumes, Keeps}
use Rattle.bhs_rehearsal.specs.Stages.{Stage, Instruction, stands_after, step}
use Rattle.bhs_script.specs.Script.{Gives, Meaning, Refused, Skipped, instructions_from, lines_of}
use Rattle.bhs_script.specs.Transcript.{all_printed, transcript}
use Rattle.bhs_cli_rehearse.specs.Interactive.{ScriptProgress, answer, judged, onward}

-- the answers to lines, in order, in a rehearsal with this number of matches
abbrev pub answers_to : (games : ℕ) → Stage → List (List ℕ) → List ℕ
answers_to games stage [] = []
answers_to games stage (line ∷ lines) =
    answer stage (judged games line) ++ answers_to games (onward stage (judged games line)) lines

-- the stage after these lines
abbrev pub stands_by : (games : ℕ) → Stage → List (List ℕ) → Stage
stands_by games stage [] = stage
stands_by games stage (line ∷ lines) = stands_by games (onward stage (judged games line)) lines

-- a flush leaves the known bytes of an output as they are
abbrev pub known_flushes : {W : Type 0} → (W → Option (List ℕ)) → W → Bool → W → Type 0
known_flushes contents old done new = Keeps (contents old) (contents new)

-- no line is refused, and together they mean these instructions
pub data Mean (games : ℕ) : List (List ℕ) → List Instruction → Type 0 where
  no_line : Mean games [] []
  skips : (line : List ℕ) (lines : List (List ℕ)) (script : List Instruction) → judged games line ≡ Skipped
      → Mean games lines script → Mean games (line ∷ lines) script
  gives : (line : List ℕ) (lines : List (List ℕ)) (one : Instruction) (script : List Instruction)
      → judged games line ≡ Gives one → Mean games lines script → Mean games (line ∷ lines) (one ∷ script)

-- This script was read, and its complete lines were answered, except for the buffered ones; at the end of the input a
-- missing line feed is added. The output consists of the answers.
pub record HasAnswered {R W : Type 0} (remaining : R → Option (List ℕ)) (contents : W → Option (List ℕ)) (stage : Stage)
    (input input' : R) (output output' : W) (progress : ScriptProgress) : Type 0 where
  pub script : List ℕ
  pub supplied : List ℕ
  pub lines : List (List ℕ)
  pub read : Consumes (remaining input) (remaining input') script
  pub end : (supplied ≡ []) ⊎ (supplied ≡ 10 ∷ [])
  pub cut : lines_of (script ++ supplied) ≡ lines ++ lines_of progress.held
  pub count : progress.answered ≡ length lines
  pub instructions : List Instruction
  pub mean : Mean (length stage.games) lines instructions
  pub stands : progress.stage ≡ stands_by (length stage.games) stage lines
  pub written : Appends (contents output) (contents output') (answers_to (length stage.games) stage lines)

-- ---- the same as a script that is played at once

-- what a line that means this sends
abbrev pub sent_by : Stage → Meaning → List ℕ
sent_by stage Skipped = []
sent_by stage (Gives instruction) = all_printed (step stage instruction).outs
sent_by stage Refused = []

-- what lines send, each by itself
abbrev pub sent_one_by_one : (games : ℕ) → Stage → List (List ℕ) → List (List ℕ)
sent_one_by_one games stage [] = []
sent_one_by_one games stage (line ∷ lines) =
    sent_by stage (judged games line) ∷ sent_one_by_one games (onward stage (judged games line)) lines

-- the concatenation of texts, each followed by an empty line
abbrev pub joined : List (List ℕ) → List ℕ
joined [] = []
joined (text ∷ texts) = text ++ joined texts

abbrev pub joined_apart : List (List ℕ) → List ℕ
joined_apart [] = []
joined_apart (text ∷ texts) = (text ++ 10 ∷ []) ++ joined_apart texts

-- Lines mean these instructions as a script of them does. What they are answered is the transcript of the
-- instructions, with an empty line behind what each line sends; and the rehearsal stands as behind the instructions
pub record IsTranscribed (games : ℕ) (stage : Stage) (lines : List (List ℕ)) (script : List Instruction)
    : Type 0 where
  pub whole : instructions_from games 1 (lines ++ [] ∷ []) ≡ Ok script
  pub apart : answers_to games stage lines ≡ joined_apart (sent_one_by_one games stage lines)
  pub together : joined (sent_one_by_one games stage lines) ≡ transcript stage script
  pub stands : stands_by games stage lines ≡ stands_after stage script
