-- What went out of a text that was not written whole.
use Rattle.std.specs.Prelude.{ℕ, List}
use Rattle.bhs_stream.specs.Streams.{WriteAnswer}
use Rattle.bhs_stream.specs.Sending.{Puts, PutsPart}
use Rattle.bhs_replay.specs.declared.faults.WritingFault.{WritingFault}
use Rattle.bhs_replay.specs.declared.faults.WritingFault.TheVariants.{Write, Memory}

-- the front of the text went out, and then a write failed or took nothing, or memory was refused
abbrev pub Breaks : {O : Type 0} → (O → List ℕ → WriteAnswer → O → Type 0) → (old : O) → (text : List ℕ) → WritingFault
    → (new : O) → Type 0
Breaks takes old text Write new = PutsPart takes old text new
Breaks takes old text Memory new = (count : ℕ) × Puts takes old text count new
