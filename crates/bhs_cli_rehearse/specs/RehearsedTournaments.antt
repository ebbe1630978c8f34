-- Rehearsals of a named or the built-in tournament.
use Rattle.std.specs.Prelude.{◌≡◌, ℕ, Bool, List, Option, Some, None}
use Rattle.bhs_model.specs.declared.limits.TheConstants.{MAX_TURNS}
use Rattle.bhs_stream.specs.Streams.{Chunk, WriteAnswer}
use Rattle.bhs_setups.specs.declared.lineups.Lineup.{Lineup}
use Rattle.bhs_cli.specs.BuiltIn.{built_in}
use Rattle.bhs_cli.specs.Fault.{status}
use Rattle.bhs_cli_rehearse.specs.Rehearsal.{Rehearses, opening, opening_of}
use Rattle.bhs_cli.specs.Summary.{IsAssembled}
use Rattle.bhs_cli.specs.declared.reporting.faults.Fault.{Fault}
use Rattle.bhs_cli.specs.Showing.{Rests}

-- the transition relations of written files, input and output
module _ {P I O : Type 0} (files : P → List ℕ → WriteAnswer → P → Type 0) (gives : I → Chunk → I → Type 0)
    (takes : O → List ℕ → WriteAnswer → O → Type 0) (flushes : O → Bool → O → Type 0) where
  -- a rehearsal of a tournament that is named, with the prefix of its replays
  pub data RehearsesNamed (prefix : Option (List ℕ)) (input input' : I) (output output' : O) (code : ℕ) : Type 0 where
    -- a tournament that was read from its file and put together is rehearsed
    rehearses_on : (lineup : Lineup) → IsAssembled lineup
        → Rehearses files gives takes MAX_TURNS flushes prefix (opening lineup) input input' output output' code
        → RehearsesNamed prefix input input' output output' code
    -- the file of the tournament is refused, or cannot be read
    refuses_file : (fault : Fault) → code ≡ status fault → Rests input input' output output'
        → RehearsesNamed prefix input input' output output' code

  -- The rehearsal of the named tournament, or by default of the built-in tournament.
  abbrev pub RehearsesEither : (tournament prefix : Option (List ℕ)) → (input input' : I) → (output output' : O) → ℕ
      → Type 0
  RehearsesEither None prefix input input' output output' code =
      Rehearses files gives takes MAX_TURNS flushes prefix (opening_of built_in) input input' output output' code
  RehearsesEither (Some name) prefix input input' output output' code =
      RehearsesNamed prefix input input' output output' code
