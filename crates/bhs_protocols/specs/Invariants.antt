-- What it takes to show of a match, once and for all, that agents solve it under every schedule: an invariant of its
-- configurations with a number that falls.
use Rattle.std.specs.Prelude.{ℕ, ◌≡◌, ◌≢◌, ◌<◌, ◌≤◌, true, [], ◌∷◌}
use Rattle.bhs_model.specs.declared.commands.Command.TheVariants.{Enter}
use Rattle.bhs_model.specs.declared.replies.Reply.TheVariants.{Over}
use Rattle.bhs_model.specs.Runs.{Before, Bound}
use Rattle.bhs_referee.specs.declared.verdicts.Outcome.TheVariants.{Solved}
use Rattle.bhs_schedules.specs.declared.answers.Step.TheVariants.{Says, Sleeps, Fails}
use Rattle.bhs_schedules.specs.Strategies.{Heard}
use Rattle.bhs_schedules.specs.Schedules.{Trial}
use Rattle.bhs_schedules.specs.Everywhere.{EveryScheduleSolves, NobodyFails}
use Rattle.bhs_schedules.specs.Spending.{EveryScheduleKeeps}
use Rattle.bhs_schedules.specs.Endings.{EveryScheduleEnds, EveryScheduleCanRest}
use Rattle.bhs_protocols.specs.Configurations.{Configuration, blank, can_move_in, turn_in, IsResting, outcome_in}
use Rattle.bhs_protocols.specs.Configurations.{doomed_in}

-- the most moves that are made, agents that are lost, commands that an agent uses, and turns that move
pub record CostBounds : Type 0 where
  pub moves : ℕ
  pub lost : ℕ
  pub commands : (agent : ℕ) → ℕ
  pub turns : ℕ

-- the match of this configuration is solved, at most this number of agents are on links that destroy, and none fails
-- now that nothing more happens
pub record IsSettled (trial : Trial) (lost : ℕ) (configuration : Configuration) : Type 0 where
  pub outcome : outcome_in trial.world configuration ≡ Solved
  pub few : doomed_in trial.world configuration ≤ lost
  pub over : (agent node port : ℕ) → agent < trial.world.agents → configuration.position agent ≡ Bound node port
      → trial.strategies agent (Heard Over ∷ configuration.history agent) ≢ Fails
  pub awake : (agent : ℕ) → agent < trial.world.agents → configuration.position agent ≡ Before
      → trial.strategies agent (configuration.history agent) ≢ Sleeps

-- what holds, with fewer turns left
pub record GoesOn (Holds : Configuration → ℕ → Type 0) (left : ℕ) (new : Configuration) : Type 0 where
  pub rest : ℕ
  pub fewer : rest < left
  pub holds : Holds new rest

-- Each agent first says Enter. The invariant holds at the start; whoever can move, it holds after that turn, with fewer
-- turns left; where it holds, the bounds are kept and nobody has failed; and where nothing more can happen, the match
-- is solved.
pub record IsInvariant (trial : Trial) (bounds : CostBounds) (Holds : Configuration → (left : ℕ)
    → Type 0) : Type 0 where
  pub first : (agent : ℕ) → trial.strategies agent [] ≡ Says Enter
  pub begins : Holds blank bounds.turns
  pub goes_on : (configuration : Configuration) (left agent : ℕ) → agent < trial.world.agents
      → can_move_in trial configuration agent ≡ true → Holds configuration left
      → GoesOn Holds left (turn_in trial configuration agent)
  pub moves : (configuration : Configuration) (left : ℕ) → Holds configuration left → configuration.moves ≤ bounds.moves
  pub commands : (configuration : Configuration) (left agent : ℕ) → Holds configuration left
      → configuration.used agent ≤ bounds.commands agent
  pub fine : (configuration : Configuration) (left agent : ℕ) → agent < trial.world.agents → Holds configuration left
      → trial.strategies agent (configuration.history agent) ≢ Fails
  pub settles : (configuration : Configuration) (left : ℕ) → IsResting trial configuration → Holds configuration left
      → IsSettled trial bounds.lost configuration

-- Under every schedule, once nothing more can happen, the match is solved within the bounds; no agent ever uses more
-- commands; none fails; no schedule goes on for ever, and each leads on to where nothing more can happen.
pub record IsSolved (trial : Trial) (bounds : CostBounds) : Type 0 where
  pub solves : EveryScheduleSolves trial bounds.moves bounds.lost
  pub keeps : EveryScheduleKeeps trial bounds.commands
  pub nobody_fails : NobodyFails trial
  pub ends : EveryScheduleEnds trial bounds.turns
  pub rests : EveryScheduleCanRest trial
