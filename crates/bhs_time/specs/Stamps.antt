-- Logs with turns: each event with the number of turns after which it happened.
use Rattle.std.specs.Prelude.{ℕ, ◌≡◌, ◌⊎◌, List, [], ◌∷◌, Option, Some, None}
use Rattle.bhs_model.specs.declared.events.Event.{Event}
use Rattle.bhs_model.specs.declared.events.Event.TheVariants.{Deliver}
use Rattle.bhs_model.specs.Worlds.{World}
use Rattle.bhs_model.specs.Draws.{Held}
use Rattle.bhs_time.specs.TimedViews.{TimedView, Fresh, ToldAt, ArrivedAt, TimedSight, departed_at}
use Rattle.bhs_time.specs.Schedules.{Schedule}
use Rattle.bhs_time.specs.TimedRuns.{TimedState, TimedAct, timed_initial, event_of, happened, timed_next, timed_run}
use Rattle.bhs_time.specs.Laws.{IsFirst, IsPunctual}

-- an event, and after how many turns it happened
pub record Stamped : Type 0 where
  pub event : Event
  pub turn : ℕ

-- the timed state after an event at its turn
abbrev pub happened_at : World → TimedState → Stamped → TimedState
happened_at world timed one = happened world (record timed { turn = one.turn }) one.event

-- the timed state after these events, each at its turn
abbrev pub stamped_run_from : World → TimedState → List Stamped → TimedState
stamped_run_from world timed [] = timed
stamped_run_from world timed (one ∷ others) = stamped_run_from world (happened_at world timed one) others

-- how a match stands after all events of a log with turns
abbrev pub stamped_run : World → List Stamped → TimedState
stamped_run world stamps = stamped_run_from world timed_initial stamps

-- A Deliver was made in time if it was made at the first turn since its agent's departure that releases the agent. Of
-- other events nothing is asked.
abbrev pub IsInTime : Schedule → TimedState → Event → (turn : ℕ) → Type 0
IsInTime schedule timed (Deliver agent) turn = IsFirst schedule agent (departed_at (timed.pasts agent)) turn
IsInTime schedule timed event turn = Unit {0}

-- each Deliver was made in time, where the match stood like this before
abbrev pub AreInTimeFrom : Schedule → World → TimedState → List Stamped → Type 0
AreInTimeFrom schedule world timed [] = Unit {0}
AreInTimeFrom schedule world timed (one ∷ others) =
    IsInTime schedule timed one.event one.turn × AreInTimeFrom schedule world (happened_at world timed one) others

-- each Deliver of a log with turns was made in time
abbrev pub AreInTime : Schedule → World → List Stamped → Type 0
AreInTime schedule world stamps = AreInTimeFrom schedule world timed_initial stamps

-- prepends an optional event with its turn to the remaining events
abbrev pub stamped_first : Option Event → (turn : ℕ) → List Stamped → List Stamped
stamped_first None turn others = others
stamped_first (Some event) turn others = record { event = event; turn = turn } ∷ others

-- the events that the acts of a timed execution make, each with its turn
abbrev pub stamps_from : World → Held → Schedule → TimedState → List TimedAct → List Stamped
stamps_from world held schedule timed [] = []
stamps_from world held schedule timed (act ∷ acts) =
    stamped_first (event_of held schedule timed act) timed.turn
    (stamps_from world held schedule (timed_next world held schedule timed act) acts)

abbrev pub stamps_of : World → Held → Schedule → List TimedAct → List Stamped
stamps_of world held schedule acts = stamps_from world held schedule timed_initial acts

-- The events of a timed execution with their turns say all that agents met: each agent has the same timed view by them.
abbrev pub TurnsSayWhatWasMet : Type 0
TurnsSayWhatWasMet = (world : World) (held : Held) (schedule : Schedule) (acts : List TimedAct) (agent : ℕ) →
    (stamped_run world (stamps_of world held schedule acts)).pasts agent
    ≡ (timed_run world held schedule acts).pasts agent

-- In a log whose Delivers were made in time, each arrival in an agent's past was at the first turn since the departure
-- that releases the agent.
abbrev pub DeliveriesInTimeArrivePunctually : Type 0
DeliveriesInTimeArrivePunctually = (schedule : Schedule) (world : World) (stamps : List Stamped) (agent : ℕ) →
    AreInTime schedule world stamps → IsPunctual schedule agent ((stamped_run world stamps).pasts agent)

-- Equal waits in logs: take two logs with turns of matches under one schedule, both with timely Delivers. The matches
-- may differ in everything else. If an agent with the same timed view arrives next in both, then it arrives after
-- equally many turns.
abbrev pub EqualWaitsInLogs : Type 0
EqualWaitsInLogs = (schedule : Schedule) (world other : World) (stamps others : List Stamped) (agent : ℕ)
    (before : TimedView) (turn later : ℕ) (sight seen : TimedSight) →
    AreInTime schedule world stamps → AreInTime schedule other others →
    (stamped_run world stamps).pasts agent ≡ ArrivedAt before turn sight →
    (stamped_run other others).pasts agent ≡ ArrivedAt before later seen →
    turn ≡ later

-- The past contains, at any depth, an arrival at this turn whose earlier past was this one.
abbrev pub HasArrival : TimedView → (before : TimedView) → (turn : ℕ) → Type 0
HasArrival Fresh before turn = ⊥
HasArrival (ToldAt past at command glance) before turn = HasArrival past before turn
HasArrival (ArrivedAt past at sight) before turn = ((past ≡ before) × (at ≡ turn)) ⊎ HasArrival past before turn

-- Every arrival of a log, and not the last step alone: agents that departed after equally many turns arrive after
-- equally many turns, whatever else they have met.
abbrev pub EveryArrivalInLogs : Type 0
EveryArrivalInLogs = (schedule : Schedule) (world other : World) (stamps others : List Stamped) (agent : ℕ)
    (before there : TimedView) (turn later : ℕ) →
    AreInTime schedule world stamps → AreInTime schedule other others →
    HasArrival ((stamped_run world stamps).pasts agent) before turn →
    HasArrival ((stamped_run other others).pasts agent) there later →
    departed_at before ≡ departed_at there → turn ≡ later
