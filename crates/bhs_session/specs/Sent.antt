-- The written part of a text that was not sent completely. Only contracts of private functions cite it.
use Rattle.std.specs.Prelude.{◌≡◌, ℕ, List}
use Rattle.bhs_stream.specs.Streams.{WriteAnswer}
use Rattle.bhs_stream.specs.Sending.{PutsPart}
use Rattle.bhs_session.specs.declared.endings.Ended.{Ended}
use Rattle.bhs_session.specs.declared.endings.Ended.TheVariants.{Memory, WriteFault}

abbrev pub SentBut : {O : Type 0} → (O → List ℕ → WriteAnswer → O → Type 0) → Ended → (old : O) → List ℕ → (new : O)
    → Type 0
SentBut takes Memory old text new = new ≡ old
SentBut takes WriteFault old text new = PutsPart takes old text new
SentBut takes cause old text new = ⊥
