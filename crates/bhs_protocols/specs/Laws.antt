-- What holds of every match that is played, and of protocols.
use Rattle.std.specs.Prelude.{ℕ, ◌+◌, ◌-◌, ◌≡◌, ◌≤◌, ◌==◌, Bool, true, List, if◌then◌else◌}
use Rattle.bhs_model.specs.Worlds.{World}
use Rattle.bhs_model.specs.Examples.{none_held}
use Rattle.bhs_schedules.specs.Schedules.{Trial, under}
use Rattle.bhs_protocols.specs.Configurations.{Configuration, configuration_of, blank, turns_in}
use Rattle.bhs_protocols.specs.Invariants.{CostBounds, IsInvariant, IsSolved}
use Rattle.bhs_protocols.specs.Programs.{strategies_by}
use Rattle.bhs_protocols.specs.Rings.{Ways, IsSearch}
use Rattle.bhs_protocols.specs.Shuttle.{shuttle, moves_on, commands_on}

-- the configuration of what a schedule comes to is what its turns make of the blank configuration
abbrev pub ConfigurationsFollow : Type 0
ConfigurationsFollow = (trial : Trial) (schedule : List ℕ)
    → configuration_of trial (under trial schedule) ≡ turns_in trial blank schedule

-- what the shuttle costs if the black hole is `one` steps from the home base on side 0 and `other` steps on side 1
abbrev pub shuttle_bounds : (n one other : ℕ) → CostBounds
shuttle_bounds n one other = record {
  moves = moves_on one + moves_on other - 1;
  lost = 1;
  commands = λ agent. if agent == 0 then commands_on n one
      else (if agent == 1 then commands_on n other else 0);
  turns = commands_on n one + moves_on one + 1 + (commands_on n other + moves_on other + 1);
}

-- two agents that run the shuttle on a ring of n nodes, where no link is held
abbrev pub shuttle_trial : World → (wakeups n : ℕ) → Trial
shuttle_trial world wakeups n = record {
  world = world;
  held = none_held;
  wakeups = wakeups;
  strategies =
      strategies_by (shuttle n);
}

-- On each ring, whatever its size, however its ports are numbered, and wherever the black hole is, the shuttle solves
-- the match under every schedule.
abbrev pub ShuttleSolves : Type 0
ShuttleSolves = (world : World) (n one other wakeups : ℕ) (ways : Ways) → IsSearch world n one other ways
    → 4 ≤ world.board → commands_on n one ≤ world.quota → commands_on n other ≤ world.quota
    → IsSolved (shuttle_trial world wakeups n) (shuttle_bounds n one other)

-- A match with an invariant is solved. The invariant is a test here, a function to Bool; of invariants of any kind a
-- lemma says the same.
abbrev pub InvariantsSolve : Type 0
InvariantsSolve = (trial : Trial) (bounds : CostBounds) (test : Configuration → (left : ℕ) → Bool)
    → IsInvariant trial bounds (λ configuration left. test configuration left ≡ true) → IsSolved trial bounds
