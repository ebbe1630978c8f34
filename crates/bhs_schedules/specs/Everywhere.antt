-- Statements that quantify over all schedules.
use Rattle.std.specs.Prelude.{ℕ, ◌≡◌, ◌<◌, ◌≤◌, ◌≢◌, List, ◌∷◌}
use Rattle.bhs_model.specs.declared.replies.Reply.TheVariants.{Over}
use Rattle.bhs_model.specs.declared.commands.Command.TheVariants.{Enter}
use Rattle.bhs_model.specs.Runs.{Position, Before, Bound}
use Rattle.bhs_referee.specs.declared.verdicts.Verdict.{Verdict}
use Rattle.bhs_referee.specs.declared.verdicts.Outcome.TheVariants.{Solved}
use Rattle.bhs_schedules.specs.declared.answers.Step.{Step}
use Rattle.bhs_schedules.specs.declared.answers.Step.TheVariants as steps
use Rattle.bhs_schedules.specs.Strategies.{Heard}
use Rattle.bhs_schedules.specs.Schedules.{Trial, under, position_of, IsAtRest, verdict}

-- the match is solved, in at most `most_moves` moves, and at most `most_lost` agents are lost
pub record IsSolvedWithin (most_moves most_lost : ℕ) (verdict : Verdict) : Type 0 where
  pub outcome : verdict.outcome ≡ Solved
  pub moves : verdict.moves ≤ most_moves
  pub lost : verdict.lost ≤ most_lost

-- under each schedule, once nothing more can happen and the match is closed, it is solved
abbrev pub EveryScheduleSolves : Trial → (moves lost : ℕ) → Type 0
EveryScheduleSolves trial moves lost = (schedule : List ℕ) → IsAtRest trial (under trial schedule)
    → IsSolvedWithin moves lost (verdict trial (under trial schedule))

-- under this schedule nothing more can happen, and the match is closed unsolved
pub record Fails (trial : Trial) (schedule : List ℕ) : Type 0 where
  pub rest : IsAtRest trial (under trial schedule)
  pub unsolved : (verdict trial (under trial schedule)).outcome ≢ Solved

-- what an agent does next after a schedule
abbrev pub step_after : Trial → (schedule : List ℕ) → (agent : ℕ) → Step
step_after trial schedule agent = trial.strategies agent ((under trial schedule).history agent)

-- the step of an agent on its link after hearing of the match's end
abbrev pub step_when_over : Trial → (schedule : List ℕ) → (agent : ℕ) → Step
step_when_over trial schedule agent = trial.strategies agent (Heard Over ∷ (under trial schedule).history agent)

-- An agent that has not entered says nothing but Enter: a server takes no other command before.
abbrev pub OnlyEnters : Position → Step → Type 0
OnlyEnters Before (steps.Says command) = command ≡ Enter
OnlyEnters position step = Unit {0}

-- Under each schedule, at each time, no agent has failed, and none says a command before it has entered. Once nothing
-- more can happen, an agent on a link does not fail when it is told that the match is over, and an agent that has not
-- entered does not sleep.
pub record NobodyFails (trial : Trial) : Type 0 where
  pub runs : (schedule : List ℕ) (agent : ℕ) → agent < trial.world.agents
      → step_after trial schedule agent ≢ steps.Fails
  pub enters : (schedule : List ℕ) (agent : ℕ) → agent < trial.world.agents
      → OnlyEnters (position_of trial (under trial schedule) agent) (step_after trial schedule agent)
  pub over : (schedule : List ℕ) (agent node port : ℕ) → agent < trial.world.agents
      → IsAtRest trial (under trial schedule) → position_of trial (under trial schedule) agent ≡ Bound node port
      → step_when_over trial schedule agent ≢ steps.Fails
  pub awake : (schedule : List ℕ) (agent : ℕ) → agent < trial.world.agents → IsAtRest trial (under trial schedule)
      → position_of trial (under trial schedule) agent ≡ Before → step_after trial schedule agent ≢ steps.Sleeps
