-- What a client writes and reads, byte by byte.
use Rattle.std.specs.Prelude.{◌≡◌, ℕ, List, [], ◌∷◌, ◌++◌, false}
use Rattle.std.specs.List.{list_any}
use Rattle.bhs_wire.specs.Lines.{is_line_feed}

-- the bytes that a client has written and the bytes that it has read
pub record Transcript : Type 0 where
  pub said : List ℕ
  pub heard : List ℕ

abbrev pub unused : Transcript
unused = record { said = []; heard = [] }

-- a line and its line feed were written
abbrev pub Writes : (old : Transcript) → (line : List ℕ) → (new : Transcript) → Type 0
Writes old line new = new ≡ record old { said = old.said ++ (line ++ 10 ∷ []) }

-- a line and its line feed were read
abbrev pub Reads : (old : Transcript) → (line : List ℕ) → (new : Transcript) → Type 0
Reads old line new =
    (list_any is_line_feed line ≡ false) × (new ≡ record old { heard = old.heard ++ (line ++ 10 ∷ []) })
