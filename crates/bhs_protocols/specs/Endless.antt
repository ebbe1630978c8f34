-- What is said of every schedule that comes to rest says nothing of a team that never does, so it must be said too that
-- schedules end.
use Rattle.bhs_model.specs.declared.commands.Command.TheVariants.{Enter}
use Rattle.bhs_model.specs.Examples.{triangle, none_held}
use Rattle.bhs_schedules.specs.declared.answers.Step.TheVariants.{Says}
use Rattle.bhs_schedules.specs.Schedules.{Trial}
use Rattle.bhs_schedules.specs.Everywhere.{EveryScheduleSolves, NobodyFails}
use Rattle.bhs_schedules.specs.Spending.{EveryScheduleKeeps}
use Rattle.bhs_schedules.specs.Endings.{EveryScheduleCanRest}

-- two agents that say Enter for ever, though they have entered
abbrev pub repeaters : Trial
repeaters = record { world = triangle; held = none_held; wakeups = 0; strategies = λ agent history. Says Enter }

-- they solve under every schedule that comes to rest, with no move, no agent lost and no command used, and none fails
abbrev pub RepeatersSolveAtRest : Type 0
RepeatersSolveAtRest =
    EveryScheduleSolves repeaters 0 0 × EveryScheduleKeeps repeaters (λ agent. 0) × NobodyFails repeaters

-- but not every schedule can be continued to one that rests
abbrev pub RepeatersDoNotRest : Type 0
RepeatersDoNotRest = EveryScheduleCanRest repeaters → ⊥
