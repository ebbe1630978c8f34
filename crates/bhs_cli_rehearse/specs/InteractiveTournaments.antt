-- The rehearsal of a tournament whose script is played as it comes, and the replays of its matches.
use Rattle.std.specs.Prelude.{◌≡◌, ℕ, Bool, List, Option, Some, None, IsSome}
use Rattle.bhs_stream.specs.Streams.{Chunk, WriteAnswer}
use Rattle.bhs_setups.specs.declared.lineups.Lineup.{Lineup}
use Rattle.bhs_rehearsal.specs.Games.{Game}
use Rattle.bhs_rehearsal.specs.Stages.{Stage}
use Rattle.bhs_cli.specs.BuiltIn.{built_in}
use Rattle.bhs_cli.specs.Fault.{status}
use Rattle.bhs_cli_rehearse.specs.Rehearsal.{AreFiled, opening, opening_of}
use Rattle.bhs_cli.specs.Showing.{Rests}
use Rattle.bhs_cli.specs.Summary.{IsAssembled}
use Rattle.bhs_cli_rehearse.specs.Interactive.{InteractsToEnd, InteractionStops}
use Rattle.bhs_cli.specs.declared.reporting.faults.Fault.{Fault}
use Rattle.bhs_cli.specs.declared.reporting.statuses.TheConstants.{DONE}
use Rattle.bhs_cli.specs.declared.streams.lines.TheConstants.{MAX_READS}

-- the transition relations of written files, input and output
module _ {P I O : Type 0} (files : P → List ℕ → WriteAnswer → P → Type 0) (gives : I → Chunk → I → Type 0)
    (takes : O → List ℕ → WriteAnswer → O → Type 0) (flushes : O → Bool → O → Type 0) where
  -- what the exit status says
  pub data InteractsWhole (prefix : Option (List ℕ)) (stage : Stage) (input input' : I) (output output' : O) (code : ℕ)
      : Type 0 where
    -- the whole script was played, all answers were passed on, and then the replays were written
    interaction_done : (games : List Game) → InteractsToEnd gives takes flushes MAX_READS stage input output input'
        output' games
        → code ≡ DONE → AreFiled files prefix games → InteractsWhole prefix stage input input' output output' code
    -- All output was flushed; then writing a replay failed.
    interaction_unfiled : (fault : Fault) → code ≡ status fault → IsSome prefix → (games : List Game)
        → InteractsToEnd gives takes flushes MAX_READS stage input output input' output' games
        → InteractsWhole prefix stage input input' output output' code
    -- this fault ended the rehearsal
    interaction_ends : (fault : Fault) → code ≡ status fault
        → InteractionStops gives takes flushes MAX_READS stage input output input' output' fault
        → InteractsWhole prefix stage input input' output output' code

  -- a rehearsal of a tournament that is named, with the prefix of its replays
  pub data InteractsNamed (prefix : Option (List ℕ)) (input input' : I) (output output' : O) (code : ℕ) : Type 0 where
    -- a tournament that was read from its file and put together is rehearsed
    interaction_on : (lineup : Lineup) → IsAssembled lineup → InteractsWhole prefix (opening lineup) input input' output
        output'
        code → InteractsNamed prefix input input' output output' code
    -- the file of the tournament is refused, or cannot be read
    tournament_refused : (fault : Fault) → code ≡ status fault → Rests input input' output output'
        → InteractsNamed prefix input input' output output' code

  -- The rehearsal of the named tournament, or by default of the built-in tournament.
  abbrev pub InteractsEither : (tournament prefix : Option (List ℕ)) → (input input' : I) → (output output' : O) → ℕ
      → Type 0
  InteractsEither None prefix input input' output output' code =
      InteractsWhole prefix (opening_of built_in) input input' output output' code
  InteractsEither (Some name) prefix input input' output output' code = InteractsNamed prefix input input' output
      output' code
