-- How held links are marked.
use Rattle.std.specs.Prelude.{ℕ, ◌≡◌, Bool, List}
use Rattle.bhs_model.specs.PortMarks.{mark_at}
use Rattle.bhs_deliveries.specs.Links.{held_in}

-- the marks are set at the links that the pairs name, and nowhere else
abbrev pub AreMarksOf : List (ℕ × ℕ) → List (List Bool) → Type 0
AreMarksOf pairs marks = (node port : ℕ) → mark_at marks node port ≡ held_in pairs node port
