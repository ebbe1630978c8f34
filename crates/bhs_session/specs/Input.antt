-- What one read brings to a session. Only contracts of private functions cite it.
use Rattle.std.specs.Prelude.{◌≡◌, ℕ, List, ◌++◌}
use Rattle.std.specs.declared.option.Option.{Option}
use Rattle.bhs_wire.specs.Lines.{Line, lines, held_of}
use Rattle.bhs_stream.specs.Streams.{Chunk, Bytes, End, Fails}
use Rattle.bhs_stream.specs.Reading.{IsPiece}
use Rattle.bhs_session.specs.declared.endings.Ended.{Ended}
use Rattle.bhs_session.specs.declared.endings.Ended.TheVariants.{InputEnded, ReadFault, Memory}

-- a piece that goes on a stream, with the lines that end in it
pub record Brings {I : Type 0} (gives : I → Chunk → I → Type 0) (old new : I) (stream : List ℕ) (found : List Line)
    (held : Option (List ℕ)) : Type 0 where
  pub piece : List ℕ
  pub is_piece : IsPiece piece
  pub given : gives old (Bytes piece) new
  pub found_lines : lines (stream ++ piece) ≡ lines stream ++ found
  pub held_rest : held ≡ held_of (stream ++ piece)

-- why a read brings no lines; if memory runs out, a piece was read
abbrev pub BringsNone : {I : Type 0} → (I → Chunk → I → Type 0) → (old new : I) → Ended → Type 0
BringsNone gives old new InputEnded = gives old End new
BringsNone gives old new ReadFault = gives old Fails new
BringsNone gives old new Memory = (piece : List ℕ) × IsPiece piece × gives old (Bytes piece) new
BringsNone gives old new cause = ⊥
