-- Texts that are written to an output and passed on.
use Rattle.std.specs.Prelude.{◌≡◌, ℕ, Bool, true, false, List}
use Rattle.bhs_stream.specs.Streams.{WriteAnswer}
use Rattle.bhs_stream.specs.Sending.{PutsAll, PutsPart}
use Rattle.bhs_cli.specs.declared.reporting.faults.Fault.{Fault}
use Rattle.bhs_cli.specs.declared.reporting.faults.Fault.TheVariants.{Write}
use Rattle.bhs_cli.specs.declared.reporting.statuses.TheConstants.{DONE}
use Rattle.bhs_cli.specs.Fault.{status}
use Rattle.bhs_cli.specs.Playing.{StopsPlaying}

-- some file took the whole of a text
abbrev pub Took : {P : Type 0} → (P → List ℕ → WriteAnswer → P → Type 0) → (text : List ℕ) → Type 0
Took {P} files text = (old new : P) × PutsAll files old text new

module _ {O : Type 0} (takes : O → List ℕ → WriteAnswer → O → Type 0) (flushes : O → Bool → O → Type 0) where
  -- The whole text was written, and the flag says whether buffered bytes were flushed.
  pub record Shows (text : List ℕ) (is_out : Bool) (output output' : O) : Type 0 where
    pub held : O
    pub written : PutsAll takes output text held
    pub flushed : flushes held is_out output'

  -- what the exit status says of a text that was to be shown
  pub data Prints (text : List ℕ) (output output' : O) (code : ℕ) : Type 0 where
    -- written and flushed
    all : code ≡ DONE → Shows text true output output' → Prints text output output' code
    -- A write failed, or took no bytes, before the whole text was written.
    part : code ≡ status Write → PutsPart takes output text output' → Prints text output output' code
    -- written, but not flushed
    held_back : code ≡ status Write → Shows text false output output' → Prints text output output' code

  -- what the exit status says of a text that was made and written line by line
  pub data PrintsByLine (text : List ℕ) (output output' : O) (code : ℕ) : Type 0 where
    -- written and flushed
    whole : code ≡ DONE → Shows text true output output' → PrintsByLine text output output' code
    -- This fault occurred before the whole text was written.
    cut_off : (fault : Fault) → code ≡ status fault → StopsPlaying takes text output output' fault
        → PrintsByLine text output output' code
    -- written, but not flushed
    kept_back : code ≡ status Write → Shows text false output output' → PrintsByLine text output output' code

-- The report, one of these texts, was to be printed; or a fault occurred earlier, and nothing was written.
pub data Reports {O : Type 0} (Printing : List ℕ → O → O → ℕ → Type 0) (IsReport : List ℕ → Type 0) (output output' : O)
    (code : ℕ) : Type 0 where
  prints : (text : List ℕ) → IsReport text → Printing text output output' code
      → Reports Printing IsReport output output' code
  stops : (fault : Fault) → code ≡ status fault → output' ≡ output → Reports Printing IsReport output output' code

-- nothing was read, and nothing was written
pub record Rests {I O : Type 0} (input input' : I) (output output' : O) : Type 0 where
  pub unread : input' ≡ input
  pub unwritten : output' ≡ output
