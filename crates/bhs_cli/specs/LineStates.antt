-- Lines that are read piece by piece.
use Rattle.std.specs.Prelude.{◌≡◌, ◌⊎◌, ◌<◌, ◌≤◌, ℕ, false, List, ◌∷◌, ◌++◌, length}
use Rattle.std.specs.List.{list_any}
use Rattle.bhs_model.specs.declared.limits.TheConstants.{MAX_TEXT}
use Rattle.bhs_wire.specs.Lines.{is_line_feed}
use Rattle.bhs_cli.specs.declared.streams.lines.LineState.{LineState}
use Rattle.bhs_cli.specs.declared.streams.lines.LineState.TheVariants.{Ended, Unfinished, Overlong}

-- The text is an unfinished line that is already too long, or begins with a finished line that is too long.
pub record IsOverlong (text : List ℕ) : Type 0 where
  pub line : List ℕ
  pub rest : List ℕ
  pub begins : (text ≡ line) ⊎ (text ≡ line ++ 10 ∷ rest)
  pub unended : list_any is_line_feed line ≡ false
  pub long : MAX_TEXT < length line

-- A piece extends the line from `line` to `line'`; the state says which bytes of the piece come after the line.
abbrev pub IsTaken : (line piece line' : List ℕ) → LineState → Type 0
IsTaken line piece line' (Ended rest) = line ++ piece ≡ line' ++ 10 ∷ rest.now
IsTaken line piece line' Unfinished = line ++ piece ≡ line'
IsTaken line piece line' Overlong = IsOverlong (line ++ piece) × (line' ≡ line)

-- The text is part of a line within the length limit.
pub record IsPart (text : List ℕ) : Type 0 where
  pub unended : list_any is_line_feed text ≡ false
  pub short : length text ≤ MAX_TEXT
