-- What holds at the opening and is kept by each turn holds under every schedule.
use Rattle.std.proofs.Common.{ℕ, List, [], ◌∷◌}
use Rattle.bhs_schedules.specs.Schedules.{Trial, Scene, opening, turn, turns, under}

-- a property of scenes that each turn keeps
pub record IsKept (trial : Trial) (P : Scene → Type 0) : Type 0 where
  pub turned : (scene : Scene) (agent : ℕ) → P scene → P (turn trial scene agent)

pub kept_by_turns : (trial : Trial) (P : Scene → Type 0) (scene : Scene) (schedule : List ℕ) → IsKept trial P
    → P scene → P (turns trial scene schedule)
kept_by_turns trial P scene [] kept holds = holds
kept_by_turns trial P scene (agent ∷ schedule) kept holds =
    kept_by_turns trial P (turn trial scene agent) schedule kept (kept.turned scene agent holds)

pub under_each : (trial : Trial) (P : Scene → Type 0) (schedule : List ℕ) → IsKept trial P → P opening
    → P (under trial schedule)
under_each trial P schedule kept holds = kept_by_turns trial P opening schedule kept holds
