-- What a rehearsal does to its input and its output, call by call.
use Rattle.std.specs.Prelude.{◌≡◌, ℕ, ◌⊎◌, Bool, true, false, List, length, map, Option, Some, None, IsSome, Result, Ok}
use Rattle.std.specs.Prelude.{Err}
use Rattle.std.specs.List.{AllByRecursion}
use Rattle.bhs_model.specs.declared.limits.TheConstants.{MAX_TEXT}
use Rattle.bhs_stream.specs.Streams.{Chunk, End, WriteAnswer}
use Rattle.bhs_stream.specs.Reading.{Closes}
use Rattle.bhs_stream.specs.Reading as reading
use Rattle.bhs_stream.specs.Sending.{PutsAll}
use Rattle.bhs_stream.specs.declared.reader.ReadFault.{ReadFault}
use Rattle.bhs_stream.specs.declared.reader.ReadFault.TheVariants as reads
use Rattle.bhs_setups.specs.declared.lineups.Lineup.{Lineup}
use Rattle.bhs_setups.specs.Lineups.{Contest, contest}
use Rattle.bhs_rehearsal.specs.Games.{Game}
use Rattle.bhs_rehearsal.specs.Stages.{Stage, Instruction, begun, stands_after}
use Rattle.bhs_rehearsal.specs.Rehearsing.{game_of}
use Rattle.bhs_replay.specs.Replay.{replay}
use Rattle.bhs_script.specs.declared.instructions.TheConstants.{CONNECTIONS}
use Rattle.bhs_script.specs.Script.{instructions_of}
use Rattle.bhs_script.specs.Transcript.{transcript}
use Rattle.bhs_cli.specs.declared.reporting.faults.Fault.{Fault}
use Rattle.bhs_cli.specs.declared.reporting.faults.Fault.TheVariants.{Read, Text, Line, File, Replay, Twin, Write}
use Rattle.bhs_cli.specs.declared.reporting.faults.Fault.TheVariants.{Memory}
use Rattle.bhs_cli.specs.declared.reporting.faults.Fault.TheVariants.{Turns, Listen, Busy, Threads, Unsettled}
use Rattle.bhs_cli.specs.declared.reporting.faults.Fault.TheVariants.{Modules, NoMatch}
use Rattle.bhs_cli.specs.declared.reporting.faults.Fault.TheVariants.{Exploring, Appeal}
use Rattle.bhs_cli.specs.declared.reporting.statuses.TheConstants.{DONE}
use Rattle.bhs_cli.specs.Fault.{status}
use Rattle.bhs_cli.specs.Playing.{StopsPlaying}
use Rattle.bhs_cli.specs.Filing.{IsFiled}

-- how the rehearsal of a tournament begins
abbrev pub opening_of : Contest → Stage
opening_of contest = begun (map game_of contest.matches) contest.keys CONNECTIONS

abbrev pub opening : Lineup → Stage
opening lineup = opening_of (contest lineup)

-- the instructions of a script that is played on this stage, or its first line that is refused
abbrev pub instructions_on : Stage → (script : List ℕ) → Result (List Instruction) ℕ
instructions_on stage script = instructions_of (length stage.games) script

-- an input and an output whose calls are these, and how many reads may be made
module _ {I O : Type 0} (gives : I → Chunk → I → Type 0) (takes : O → List ℕ → WriteAnswer → O
    → Type 0) (turns : ℕ) where
  -- this script was read to the end of the input
  abbrev pub HasRead : (input input' : I) → (script : List ℕ) → Type 0
  HasRead input input' script = Closes gives input MAX_TEXT turns script End input'

  -- the input was read, and means these instructions
  pub record Means (stage : Stage) (input input' : I) (instructions : List Instruction) : Type 0 where
    pub script : List ℕ
    pub read : HasRead input input' script
    pub meant : instructions_on stage script ≡ Ok instructions

  -- the whole script was played: all that it sends was written, and the matches stand as it leaves them
  pub record Plays (stage : Stage) (input input' : I) (output output' : O) (games : List Game) : Type 0 where
    pub instructions : List Instruction
    pub means : Means stage input input' instructions
    pub written : PutsAll takes output (transcript stage instructions) output'
    pub left : games ≡ (stands_after stage instructions).games

  -- the script was played until this fault
  pub record PlaysUntil (fault : Fault) (stage : Stage) (input input' : I) (output output' : O) : Type 0 where
    pub instructions : List Instruction
    pub means : Means stage input input' instructions
    pub stopped : StopsPlaying takes (transcript stage instructions) output output' fault

  -- reading ended with this fault, and nothing was written
  abbrev pub StopsReading : (input input' : I) → (output output' : O) → ReadFault → Type 0
  StopsReading input input' output output' fault =
      reading.EndsBy gives input MAX_TEXT turns fault input' × (output' ≡ output)

  -- what a fault means and leaves; memory may run out while the script is read, judged or played
  abbrev pub Stops : Stage → (input input' : I) → (output output' : O) → Fault → Type 0
  Stops stage input input' output output' Read = StopsReading input input' output output' reads.Read
  Stops stage input input' output output' Text = StopsReading input input' output output' reads.Text
  Stops stage input input' output output' Turns = StopsReading input input' output output' reads.Turns
  Stops stage input input' output output' (Line line) =
      (script : List ℕ) × HasRead input input' script × (instructions_on stage script ≡ Err line) × (output' ≡ output)
  Stops stage input input' output output' (File fault) = ⊥
  Stops stage input input' output output' (Replay fault) = ⊥
  Stops stage input input' output output' (Twin fault) = ⊥
  Stops stage input input' output output' Listen = ⊥
  Stops stage input input' output output' Busy = ⊥
  Stops stage input input' output output' Threads = ⊥
  Stops stage input input' output output' (NoMatch game) = ⊥
  Stops stage input input' output output' (Modules modules agents) = ⊥
  Stops stage input input' output output' (Exploring why) = ⊥
  Stops stage input input' output output' (Appeal why) = ⊥
  Stops stage input input' output output' (Unsettled game) = ⊥
  Stops stage input input' output output' Write = PlaysUntil Write stage input input' output output'
  Stops stage input input' output output' Memory =
      StopsReading input input' output output' reads.Memory
      ⊎ (((script : List ℕ) × HasRead input input' script × (output' ≡ output))
      ⊎ PlaysUntil Memory stage input input' output output')

  -- the whole script was played, and whether what was held back was passed on
  pub record PlaysOut (flushes : O → Bool → O → Type 0) (is_out : Bool) (stage : Stage) (input input' : I)
      (output output' : O) : Type 0 where
    pub held : O
    pub games : List Game
    pub plays : Plays stage input input' output held games
    pub flushed : flushes held is_out output'

  -- a fault ended the rehearsal: the playing stopped by it, or all was played and not passed on
  abbrev pub EndsBy : (flushes : O → Bool → O → Type 0) → Stage → (input input' : I) → (output output' : O)
      → Fault → Type 0
  EndsBy flushes stage input input' output output' fault =
      Stops stage input input' output output' fault
      ⊎ ((fault ≡ Write) × PlaysOut flushes false stage input input' output output')

-- If replays were requested, those of all matches that have ended are written.
abbrev pub AreFiled : {P : Type 0} → (P → List ℕ → WriteAnswer → P → Type 0) → Option (List ℕ) → List Game → Type 0
AreFiled files None games = Unit {0}
AreFiled files (Some prefix) games = AllByRecursion (IsFiled files) games

-- what the exit status of a rehearsal says
pub data Rehearses {P I O : Type 0} (files : P → List ℕ → WriteAnswer → P → Type 0) (gives : I → Chunk → I → Type 0)
    (takes : O → List ℕ → WriteAnswer → O → Type 0) (turns : ℕ) (flushes : O → Bool → O → Type 0)
    (prefix : Option (List ℕ)) (stage : Stage) (input input' : I) (output output' : O) (code : ℕ) : Type 0 where
  -- the whole script was played, all that it sends was passed on, and then the replays were written
  done : (out : PlaysOut gives takes turns flushes true stage input input' output output') → code ≡ DONE
      → AreFiled files prefix out.games
      → Rehearses files gives takes turns flushes prefix stage input input' output output' code
  -- All output was flushed; then writing a replay failed.
  unfiled : (fault : Fault) → code ≡ status fault → IsSome prefix
      → PlaysOut gives takes turns flushes true stage input input' output output'
      → Rehearses files gives takes turns flushes prefix stage input input' output output' code
  -- this fault ended the rehearsal
  ends : (fault : Fault) → code ≡ status fault
      → EndsBy gives takes turns flushes stage input input' output output' fault
      → Rehearses files gives takes turns flushes prefix stage input input' output output' code
