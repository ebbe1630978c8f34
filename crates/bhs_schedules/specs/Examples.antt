-- Worked examples on the triangle: what each shows is checked by computing the definitions.
use Rattle.std.specs.Prelude.{ℕ, ◌≡◌, Bool, true, false, Some, None, List, [], ◌∷◌, codes, if◌then◌else◌, ◌==◌}
use Rattle.std.specs.Prelude.{◌||◌, ◌+◌}
use Rattle.bhs_model.specs.declared.commands.Command.TheVariants.{Enter, Write, Depart, Accuse, Leave}
use Rattle.bhs_model.specs.declared.replies.Reply.TheVariants.{Here, Written, Gone, Bye, Over}
use Rattle.bhs_model.specs.Examples.{triangle, none_held}
use Rattle.bhs_referee.specs.declared.verdicts.Outcome.TheVariants.{Solved, Silent}
use Rattle.bhs_schedules.specs.declared.answers.Step.{Step}
use Rattle.bhs_schedules.specs.declared.answers.Step.TheVariants.{Says, Sleeps, Stops, Fails}
use Rattle.bhs_schedules.specs.Strategies.{Heard, Woke, Strategy, Strategies}
use Rattle.bhs_schedules.specs.Schedules.{Trial, opening, under, can_move, verdict}
use Rattle.bhs_schedules.specs.Machines.{Machines, memory_at, strategies_of}
use Rattle.bhs_schedules.specs.Everywhere.{step_after, step_when_over}
use Rattle.bhs_schedules.specs.Spending.{used_in}
use Rattle.bhs_schedules.specs.Endings.{moving}

-- enters, goes to node 1, and accuses the link from there to node 2
abbrev pub scout : Strategy
scout [] = Says Enter
scout (Heard (Here ports None board) ∷ history) = Says (Depart 0)
scout (Heard (Here ports (Some label) board) ∷ history) = Says (Accuse 1)
scout history = Stops

-- enters, goes into the black hole
abbrev pub victim : Strategy
victim [] = Says Enter
victim (Heard (Here ports came board) ∷ history) = Says (Depart 1)
victim history = Stops

-- enters, writes, and leaves
abbrev pub writer : Strategy
writer [] = Says Enter
writer (Heard (Here ports came board) ∷ history) = Says (Write [] (codes "a"))
writer (Heard Written ∷ history) = Says Leave
writer history = Stops

-- an agent that enters, then sleeps for ever
abbrev pub sleeper : Strategy
sleeper [] = Says Enter
sleeper history = Sleeps

-- enters, leaves, and fails once it has ended
abbrev pub quitter : Strategy
quitter [] = Says Enter
quitter (Heard Bye ∷ history) = Fails
quitter history = Says Leave

-- enters, goes into the black hole, and fails when it is told that the match is over
abbrev pub careless : Strategy
careless (Heard Over ∷ history) = Fails
careless history = victim history

-- sleeps, and never enters
abbrev pub dreamer : Strategy
dreamer history = Sleeps

abbrev pub two : Strategy → Strategy → Strategies
two one other agent = if agent == 0 then one else other

abbrev pub on_triangle : Strategy → Strategy → Trial
on_triangle one other = record { world = triangle; held = none_held; wakeups = 0; strategies = two one other }

-- both agents' ability to move after this schedule
abbrev pub moves_left : Trial → (schedule : List ℕ) → Bool × Bool
moves_left trial schedule = (can_move trial (under trial schedule) 0, can_move trial (under trial schedule) 1)

-- The scout solves the triangle, also while the other agent is on its way to the black hole, destroyed or not.
abbrev pub TheScoutSolves : Type 0
TheScoutSolves =
    (moves_left (on_triangle scout victim) (0 ∷ 1 ∷ 0 ∷ 1 ∷ 0 ∷ 0 ∷ []) ≡ (false, false))
    × (verdict (on_triangle scout victim) (under (on_triangle scout victim) (0 ∷ 1 ∷ 0 ∷ 1 ∷ 0 ∷ 0 ∷ []))
    ≡ record { outcome = Solved; moves = 2; lost = 0 })
    × (verdict (on_triangle scout victim) (under (on_triangle scout victim) (1 ∷ 1 ∷ 1 ∷ 0 ∷ 0 ∷ 0 ∷ 0 ∷ []))
    ≡ record { outcome = Solved; moves = 2; lost = 1 })

-- a held link lets nobody arrive
abbrev pub AHeldLinkHolds : Type 0
AHeldLinkHolds =
    (moves_left (record (on_triangle scout victim) { held = λ node port. true }) (0 ∷ 0 ∷ 1 ∷ 1 ∷ 0 ∷ [])
    ≡ (false, false))
    × (verdict (record (on_triangle scout victim) { held = λ node port. true })
    (under (record (on_triangle scout victim) { held = λ node port. true }) (0 ∷ 0 ∷ 1 ∷ 1 ∷ 0 ∷ []))
    ≡ record { outcome = Silent; moves = 2; lost = 0 })

-- a sleeper wakes once, and again after somebody has written on the whiteboard in front of it
abbrev pub ASleeperWakes : Type 0
ASleeperWakes =
    (moves_left (on_triangle writer sleeper) (1 ∷ []) ≡ (true, true))
    × (moves_left (on_triangle writer sleeper) (1 ∷ 1 ∷ []) ≡ (true, false))
    × (moves_left (on_triangle writer sleeper) (1 ∷ 1 ∷ 0 ∷ []) ≡ (true, false))
    × (moves_left (on_triangle writer sleeper) (1 ∷ 1 ∷ 0 ∷ 0 ∷ []) ≡ (true, true))
    × (moves_left (on_triangle writer sleeper) (1 ∷ 1 ∷ 0 ∷ 0 ∷ 1 ∷ []) ≡ (true, false))

-- a sleeper may have all the spurious wake-ups that it is allowed
abbrev pub ASleeperNaps : Type 0
ASleeperNaps =
    (moves_left (record (on_triangle writer sleeper) { wakeups = 2 }) (1 ∷ 1 ∷ 1 ∷ 1 ∷ []) ≡ (true, false))
    × (moves_left (record (on_triangle writer sleeper) { wakeups = 2 }) (1 ∷ 1 ∷ 1 ∷ []) ≡ (true, true))
    × (moves_left (record (on_triangle writer sleeper) { wakeups = 2 }) (1 ∷ 1 ∷ 1 ∷ 1 ∷ 0 ∷ 0 ∷ []) ≡ (true, true))

-- what the scout and the victim do by what they hold: it enters, departs, arrives, accuses
abbrev pub does_as : ℕ → Step
does_as memory =
    if memory == 0 || memory == 10 then Says Enter
    else (if memory == 1 then Says (Depart 0)
    else (if memory == 11 then Says (Depart 1)
    else (if memory == 3 then Says (Accuse 1) else Stops)))

-- the scout and the victim as machines: agent 0 holds 0 at the start, agent 1 holds 10
abbrev pub scouts : Machines
scouts = record {
  start = λ agent. if agent == 0 then 0 else 10;
  after = λ memory item. memory + 1;
  does = does_as;
}

-- Agents as machines: memories determine steps, and two histories with equal memories are indistinguishable to the
-- agent.
abbrev pub MachinesPlay : Type 0
MachinesPlay =
    (memory_at scouts 1 (Woke ∷ Heard Gone ∷ []) ≡ 12)
    × (memory_at scouts 1 (Heard Gone ∷ Woke ∷ []) ≡ 12)
    × (moves_left (record { world = triangle; held = none_held; wakeups = 0; strategies = strategies_of scouts })
    (0 ∷ 1 ∷ 0 ∷ 1 ∷ 0 ∷ 0 ∷ [])
    ≡ (false, false))
    × (verdict (record { world = triangle; held = none_held; wakeups = 0; strategies = strategies_of scouts })
    (under (record { world = triangle; held = none_held; wakeups = 0; strategies = strategies_of scouts })
    (1 ∷ 1 ∷ 1 ∷ 0 ∷ 0 ∷ 0 ∷ 0 ∷ []))
    ≡ record { outcome = Solved; moves = 2; lost = 1 })

-- an Enter is not counted, a Depart and an Accuse are
abbrev pub WhatIsUsed : Type 0
WhatIsUsed =
    (used_in (on_triangle scout victim) (under (on_triangle scout victim) (0 ∷ 0 ∷ 0 ∷ [])) 0 ≡ 1)
    × (used_in (on_triangle scout victim) (under (on_triangle scout victim) (0 ∷ 0 ∷ 0 ∷ 0 ∷ [])) 0 ≡ 2)
    × (used_in (on_triangle scout victim) (under (on_triangle scout victim) (1 ∷ 1 ∷ 1 ∷ 1 ∷ [])) 1 ≡ 1)

-- Six turns of this schedule move: both agents enter and depart, and the scout arrives and accuses. The last two do
-- not: the victim is destroyed on its link, and the scout has stopped.
abbrev pub TurnsThatMove : Type 0
TurnsThatMove =
    moving (on_triangle scout victim) opening (0 ∷ 1 ∷ 0 ∷ 1 ∷ 0 ∷ 0 ∷ 1 ∷ 0 ∷ []) ≡ 6

-- Three failures: an agent fails after its end; an agent fails when it hears on its link that the match is over, and
-- not before; an agent never enters and sleeps while nothing more can happen.
abbrev pub AgentsFail : Type 0
AgentsFail =
    (step_after (on_triangle quitter victim) (0 ∷ []) 0 ≡ Says Leave)
    × (step_after (on_triangle quitter victim) (0 ∷ 0 ∷ []) 0 ≡ Fails)
    × (step_after (on_triangle scout careless) (1 ∷ 1 ∷ []) 1 ≡ Stops)
    × (step_when_over (on_triangle scout careless) (1 ∷ 1 ∷ []) 1 ≡ Fails)
    × (moves_left (on_triangle quitter dreamer) (0 ∷ 0 ∷ 1 ∷ []) ≡ (false, false))
    × (step_after (on_triangle quitter dreamer) (0 ∷ 0 ∷ 1 ∷ []) 1 ≡ Sleeps)
