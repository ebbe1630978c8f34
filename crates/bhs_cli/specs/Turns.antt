-- The text of the turns of a match's events.
use Rattle.std.specs.Prelude.{◌≡◌, ◌<◌, ◌^◌, ℕ, List, [], ◌∷◌, ◌++◌, codes, decimal}
use Rattle.std.specs.List.{AllByRecursion}
use Rattle.bhs_cli.specs.declared.reporting.faults.Fault.{Fault}
use Rattle.bhs_cli.specs.declared.reporting.faults.Fault.TheVariants.{Line, Memory}

-- the line of a turn
abbrev pub turn_line : ℕ → List ℕ
turn_line turn = decimal turn ++ codes "\n"

-- the lines of turns, in their order
abbrev pub turns_text : List ℕ → List ℕ
turns_text [] = []
turns_text (turn ∷ turns) = turn_line turn ++ turns_text turns

-- a turn has 32 bits
abbrev pub IsTurn : ℕ → Type 0
IsTurn turn = turn < 2 ^ 32

-- The text lists these turns.
pub record IsTextOf (turns : List ℕ) (text : List ℕ) : Type 0 where
  pub known : AllByRecursion IsTurn turns
  pub spelled : turns_text turns ≡ text

-- The text lists some turns.
abbrev pub IsOfTurns : List ℕ → Type 0
IsOfTurns text = (turns : List ℕ) × IsTextOf turns text

-- The reason to refuse a text: some line is no turn, so the text lists no turns; or memory ran out.
abbrev pub IsRefusedText : (text : List ℕ) → Fault → Type 0
IsRefusedText text (Line line) = ¬ IsOfTurns text
IsRefusedText text Memory = Unit {0}
IsRefusedText text fault = ⊥
