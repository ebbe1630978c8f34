-- The implementation's progress through an interactive script. Only contracts of private functions cite it.
use Rattle.std.specs.Prelude.{◌≡◌, ◌≢◌, ℕ, Bool, true, false, List, [], ◌++◌}
use Rattle.bhs_stream.specs.Streams.{WriteAnswer}
use Rattle.bhs_rehearsal.specs.Stages.{Stage}
use Rattle.bhs_script.specs.Script.{Meaning, Refused}
use Rattle.bhs_cli_rehearse.specs.Interactive.{Answers, ScriptProgress, answer, ended, onward}
use Rattle.bhs_cli.specs.declared.reporting.faults.Fault.{Fault}
use Rattle.bhs_cli.specs.declared.reporting.faults.Fault.TheVariants.{Line, Write}
use Rattle.bhs_cli_rehearse.specs.declared.interactive.Shell.{Shell}

-- the progress of a shell that has these bytes left to process
abbrev pub progress_of : Shell → (after : List ℕ) → ScriptProgress
progress_of shell after = record {
  stage = shell.rehearsal.stage;
  answered = shell.answered;
  held = shell.line.items ++ after;
}

-- a line that means this was carried out, and its answer added to a text; or it is refused
abbrev pub IsReplied : Meaning → (stage stage' : Stage) → (text text' : List ℕ) → Bool → Type 0
IsReplied means stage stage' text text' true =
    (means ≢ Refused) × (text' ≡ text ++ answer stage means) × (stage' ≡ onward stage means)
IsReplied means stage stage' text text' false = means ≡ Refused

-- a line of this number is refused, unless what was written could not be passed on
abbrev pub IsRefusal : {O : Type 0} → (flushes : O → Bool → O → Type 0) → (line : ℕ) → (output output' : O) → Fault
    → Type 0
IsRefusal flushes line output output' (Line number) = (number ≡ line) × flushes output true output'
IsRefusal flushes line output output' Write = flushes output false output'
IsRefusal flushes line output output' fault = ⊥

-- behind the end of the input the last line was answered, and all was passed on
pub record IsConcluded {O : Type 0} (takes : O → List ℕ → WriteAnswer → O → Type 0) (flushes : O → Bool → O → Type 0)
    (old new : Shell) (output output' : O) : Type 0 where
  pub progress : ScriptProgress
  pub there : O
  pub answers : Answers takes old.games (ended (progress_of old [])) output progress there
  pub all : progress.held ≡ []
  pub left : progress.stage ≡ new.rehearsal.stage
  pub passed : flushes there true output'
