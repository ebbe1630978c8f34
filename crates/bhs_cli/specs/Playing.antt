-- A text that goes out piece by piece, as the answers of a script or the lines of a replay, and that a fault ends.
use Rattle.std.specs.Prelude.{◌≡◌, ℕ, List, ◌++◌, Ok, Err}
use Rattle.std.specs.declared.result.Result.{Result}
use Rattle.bhs_stream.specs.Streams.{WriteAnswer}
use Rattle.bhs_stream.specs.Sending.{Puts, PutsPart}
use Rattle.bhs_cli.specs.declared.reporting.faults.Fault.{Fault}
use Rattle.bhs_cli.specs.declared.reporting.faults.Fault.TheVariants.{Write, Memory}

-- A part of the text was written. At a fault of writing the last write failed or took nothing. Memory may also run out
-- behind the end of the text, at an instruction that sends nothing. No other fault ends the playing.
abbrev pub StopsPlaying : {O : Type 0} → (O → List ℕ → WriteAnswer → O → Type 0) → (text : List ℕ)
    → (output output' : O)
    → Fault → Type 0
StopsPlaying takes text output output' Write = PutsPart takes output text output'
StopsPlaying takes text output output' Memory = (count : ℕ) × Puts takes output text count output'
StopsPlaying takes text output output' fault = ⊥
