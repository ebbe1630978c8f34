-- A script whose answers go out piece by piece, and what a rehearsal does, of what its playing does.
use Rattle.std.proofs.Common.{◌≡◌, inr, OnOk, IfOk, IfErr, IsErrAnd, ℕ, List, ◌∷◌, ◌++◌, refl, sym, subst, Result, Ok}
use Rattle.std.proofs.Common.{Err, None, Some, Bool, true, false, nat_lt, length, if◌then◌else◌, ◌∙◌, ap, append-nil}
use Rattle.std.proofs.Common.{◌+◌, ◌<◌, map, drop, get_or}
use Rattle.std.proofs.lemmas.List.{drop_more}
use Rattle.bhs_stream.specs.Streams.{Chunk, WriteAnswer}
use Rattle.bhs_stream.specs.Sending.{PutsAll}
use Rattle.bhs_rehearsal.specs.Games.{Game}
use Rattle.bhs_rehearsal.specs.Rehearsing.{Rehearsing, Follows, Refuses, fault_of}
use Rattle.bhs_rehearsal.specs.Stages.{Stage, Instruction, Feeds, EndsInput, Draws, Delivers, Closes, Stepped}
use Rattle.bhs_rehearsal.specs.Stages.{nothing, step, stands_after}
use Rattle.bhs_rehearsal.specs.declared.faults.RehearsalFault.{RehearsalFault}
use Rattle.bhs_rehearsal.specs.declared.faults.RehearsalFault.TheVariants as rehearsals
use Rattle.bhs_script.specs.Instructions.{seen}
use Rattle.bhs_script.specs.Transcript.{all_printed, transcript}
use Rattle.bhs_script.specs.declared.instructions.Instruction.{Instruction as InstructionOfCode}
use Rattle.bhs_cli_rehearse.specs.Pushing.{IsPushed}
use Rattle.bhs_cli.specs.Playing.{StopsPlaying}
use Rattle.bhs_cli_rehearse.specs.Rehearsal.{Means, Plays, Stops}
use Rattle.bhs_cli.specs.declared.reporting.faults.Fault.{Fault}
use Rattle.bhs_cli.specs.declared.reporting.faults.Fault.TheVariants.{Read, Text, Line, File, Replay, Twin, Write}
use Rattle.bhs_cli.specs.declared.reporting.faults.Fault.TheVariants.{Memory}
use Rattle.bhs_cli.specs.declared.reporting.faults.Fault.TheVariants.{Turns, Listen, Busy, Threads, Unsettled}
use Rattle.bhs_cli.specs.declared.reporting.faults.Fault.TheVariants.{Modules, NoMatch}
use Rattle.bhs_cli.specs.declared.reporting.faults.Fault.TheVariants.{Exploring, Appeal}

-- a call that names nothing that is there is an instruction that does nothing
still_if : (is_there : Bool) (fault other : RehearsalFault) (does still : Stepped)
    → (if is_there then None else Some other) ≡ Some fault → (if is_there then does else still) ≡ still
still_if true fault other does still is = cc
still_if false fault other does still is = refl

still : (stage : Stage) (instruction : Instruction) (fault : RehearsalFault)
    → fault_of stage instruction ≡ Some fault → step stage instruction ≡ nothing stage
still stage (Feeds conn bytes) fault is = still_if (nat_lt conn (length stage.connections)) fault _ _ _ is
still stage (EndsInput conn) fault is = still_if (nat_lt conn (length stage.connections)) fault _ _ _ is
still stage (Draws game word) fault is = still_if (nat_lt game (length stage.games)) fault _ _ _ is
still stage (Delivers game agent) fault is = still_if (nat_lt game (length stage.games)) fault _ _ _ is
still stage (Closes game) fault is = still_if (nat_lt game (length stage.games)) fault _ _ _ is

-- what is printed of a call is what its instruction prints, and the rehearsal stands as that leaves it
module _ {T : Type 0} (sent : T → List (ℕ × List ℕ)) (old new : Rehearsing) (instruction : Instruction)
    (text text' : List ℕ) where
  abbrev Prints : Type 0
  Prints = (text' ≡ text ++ all_printed (step old.stage instruction).outs)
      × (new.stage ≡ (step old.stage instruction).stage)

  of_refused : (fault : RehearsalFault) → Refuses old instruction fault new → text' ≡ text → Prints
  of_refused fault refuses same =
      let is_still = still old.stage instruction fault refuses.names in
      rw (is_still, refuses.same) (same ∙ sym (append-nil text), refl)

  pub prints_call : (r : Result T RehearsalFault) → Follows sent old instruction r new → IsPushed sent r text text'
      → Prints
  prints_call (Ok outs) follows pushed =
      (pushed ∙ ap (λ all. text ++ all_printed all) follows.outs, ap (λ one. one.stage) follows.stands)
  prints_call (Err rehearsals.Conn) follows pushed = of_refused rehearsals.Conn follows pushed
  prints_call (Err rehearsals.NoGame) follows pushed = of_refused rehearsals.NoGame follows pushed
  prints_call (Err rehearsals.Memory) follows pushed = absurd pushed

-- A script's suffix from position `i` is instruction `i`, followed by the suffix from `i + 1`.
pub one_by_one : (script : List InstructionOfCode) (i : ℕ) (one : InstructionOfCode) → i < length script
    → one ≡ get_or script i one → map seen (drop i script) ≡ seen one ∷ map seen (drop (i + 1) script)
one_by_one script i one within is = ap (map seen)
    (drop_more script i one within ∙ ap (λ (y : InstructionOfCode). y ∷ drop (i + 1) script) (sym is))

-- the output of a script's first instruction, followed by that of the remaining script
pub transcript-turn : (stage : Stage) (script : List Instruction) (one : Instruction) (others : List Instruction)
    → script ≡ one ∷ others
    → transcript stage script ≡ all_printed (step stage one).outs ++ transcript (step stage one).stage others
transcript-turn stage script one others turn = rw turn refl

module _ {I O : Type 0} (gives : I → Chunk → I → Type 0) (takes : O → List ℕ → WriteAnswer → O → Type 0) (turns : ℕ)
    (stage : Stage) (input input' : I) (output output' : O) (instructions : List Instruction)
    (means : Means gives takes turns stage input input' instructions) where
  pub plays_all : {T : Type 0} (games_in : T → List Game) (r : Result T Fault)
      → OnOk r (PutsAll takes output (transcript stage instructions) output')
      → IfOk r (λ x. games_in x ≡ (stands_after stage instructions).games)
      → IfOk r (λ x. Plays gives takes turns stage input input' output output' (games_in x))
  plays_all games_in (Ok x) written left = record
      { instructions = instructions; means = means; written = written; left = left }
  plays_all games_in (Err fault) written left = tt

  stops_at : (fault : Fault) → StopsPlaying takes (transcript stage instructions) output output' fault
      → Stops gives takes turns stage input input' output output' fault
  stops_at Write stopped = record { instructions = instructions; means = means; stopped = stopped }
  stops_at Memory stopped = inr (inr (record { instructions = instructions; means = means; stopped = stopped }))
  stops_at Read stopped = absurd stopped
  stops_at Text stopped = absurd stopped
  stops_at (Line line) stopped = absurd stopped
  stops_at Turns stopped = absurd stopped
  stops_at (File fault) stopped = absurd stopped
  stops_at (Replay fault) stopped = absurd stopped
  stops_at (Twin fault) stopped = absurd stopped
  stops_at Listen stopped = absurd stopped
  stops_at Busy stopped = absurd stopped
  stops_at Threads stopped = absurd stopped
  stops_at (NoMatch game) stopped = absurd stopped
  stops_at (Modules modules agents) stopped = absurd stopped
  stops_at (Exploring why) stopped = absurd stopped
  stops_at (Appeal why) stopped = absurd stopped
  stops_at (Unsettled game) stopped = absurd stopped

  pub stops_all : {T : Type 0} (r : Result T Fault)
      → IfErr r (StopsPlaying takes (transcript stage instructions) output output')
      → IfErr r (Stops gives takes turns stage input input' output output')
  stops_all (Ok x) stopped = tt
  stops_all (Err fault) stopped = stops_at fault stopped
