-- That every schedule of a match ends.
use Rattle.std.specs.Prelude.{ℕ, ◌+◌, ◌≤◌, Bool, true, false, List, [], ◌∷◌, ◌++◌}
use Rattle.bhs_schedules.specs.Schedules.{Trial, Scene, opening, turn, under, can_move, IsAtRest}

-- 1 if it is so, else 0
abbrev pub one_if : Bool → ℕ
one_if true = 1
one_if false = 0

-- how many of these turns move, if they are played from this scene on
abbrev pub moving : Trial → Scene → (schedule : List ℕ) → ℕ
moving trial scene [] = 0
moving trial scene (agent ∷ schedule) =
    one_if (can_move trial scene agent) + moving trial (turn trial scene agent) schedule

-- each schedule has at most this many turns that move; all its other turns change nothing
abbrev pub EveryScheduleEnds : Trial → (most : ℕ) → Type 0
EveryScheduleEnds trial most = (schedule : List ℕ) → moving trial opening schedule ≤ most

-- each schedule can be continued to one after which nothing more can happen
abbrev pub EveryScheduleCanRest : Trial → Type 0
EveryScheduleCanRest trial = (schedule : List ℕ) → (more : List ℕ) × IsAtRest trial (under trial (schedule ++ more))
