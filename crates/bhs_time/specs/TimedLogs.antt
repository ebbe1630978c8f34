-- The logs with turns that timed executions leave: the events that a match keeps, each with its turn.
use Rattle.std.specs.Prelude.{ℕ, ◌≡◌, ◌≤◌, ◌+◌, Bool, false, Option, Some, None, List, [], ◌∷◌, if◌then◌else◌, take}
use Rattle.bhs_model.specs.declared.events.Event.{Event}
use Rattle.bhs_model.specs.declared.events.Event.TheVariants.{Deliver}
use Rattle.bhs_model.specs.Worlds.{World}
use Rattle.bhs_model.specs.Runs.{State}
use Rattle.bhs_model.specs.Draws.{Held, is_held}
use Rattle.bhs_model.specs.Kept.{keeps, lost_after, nobody}
use Rattle.bhs_time.specs.Schedules.{Schedule}
use Rattle.bhs_time.specs.TimedRuns.{TimedState, timed_initial, TimedAct, event_of, timed_next}
use Rattle.bhs_time.specs.Stamps.{Stamped, happened_at, AreInTime}

-- the lost agents after an optional event
abbrev pub lost_then : World → State → (lost : ℕ → Bool) → Option Event → ℕ → Bool
lost_then world state lost None = lost
lost_then world state lost (Some event) = lost_after world state lost event

-- prepends an optional event with its turn, if the match keeps the event
abbrev pub logged_first : World → State → (lost : ℕ → Bool) → Option Event → (turn : ℕ) → List Stamped → List Stamped
logged_first world state lost None turn others = others
logged_first world state lost (Some event) turn others =
    if keeps world state lost event then record { event = event; turn = turn } ∷ others else others

abbrev pub timed_log_from : World → Held → Schedule → (lost : ℕ → Bool) → TimedState → List TimedAct → List Stamped
timed_log_from world held schedule lost timed [] = []
timed_log_from world held schedule lost timed (act ∷ acts) =
    let event = event_of held schedule timed act in
    logged_first world timed.state lost event timed.turn
    (timed_log_from world held schedule (lost_then world timed.state lost event)
    (timed_next world held schedule timed act) acts)

-- what a match keeps of the events of a timed execution, each event with its turn
abbrev pub timed_log : World → Held → Schedule → List TimedAct → List Stamped
timed_log world held schedule acts = timed_log_from world held schedule nobody timed_initial acts

-- A log with turns is that of a timed execution: some acts leave it. So in each turn at most one agent arrives, at the
-- end of the turn; no agent arrives over a held link; and none that a turn releases is left out before the last event.
pub record IsTimedLog (world : World) (held : Held) (schedule : Schedule) (stamps : List Stamped) : Type 0 where
  pub acts : List TimedAct
  pub leave : timed_log world held schedule acts ≡ stamps

-- how many turns have passed when the next event may happen: a delivery ends its turn
abbrev pub turn_behind : Event → (turn : ℕ) → ℕ
turn_behind (Deliver agent) turn = turn + 1
turn_behind event turn = turn

-- the number of turns after a log, given the number before it
abbrev pub turns_passed : (turn : ℕ) → List Stamped → ℕ
turns_passed turn [] = turn
turns_passed turn (one ∷ others) = turns_passed (turn_behind one.event one.turn) others

-- Each delivery of a timed execution is made in time: at the first turn since the departure that releases its agent.
abbrev pub TimedLogsAreInTime : Type 0
TimedLogsAreInTime = (world : World) (held : Held) (schedule : Schedule) (stamps : List Stamped) →
    IsTimedLog world held schedule stamps → AreInTime schedule world stamps

-- The turns of a log ascend (weakly), starting from this turn.
abbrev pub Ascend : (turn : ℕ) → List Stamped → Type 0
Ascend turn [] = Unit {0}
Ascend turn (one ∷ others) = (turn ≤ one.turn) × Ascend one.turn others

-- The turns of a timed execution ascend.
abbrev pub TimedLogsAscend : Type 0
TimedLogsAscend = (world : World) (held : Held) (schedule : Schedule) (stamps : List Stamped) →
    IsTimedLog world held schedule stamps → Ascend 0 stamps

-- a Deliver of an agent whose link is not held; of other events nothing is asked
abbrev pub IsFree : Held → TimedState → Event → Type 0
IsFree held timed (Deliver agent) = is_held held (timed.state.position agent) ≡ false
IsFree held timed event = Unit {0}

-- each Deliver of a log is of an agent whose link is not held, where the match stood like this before
abbrev pub AreFreeFrom : Held → World → TimedState → List Stamped → Type 0
AreFreeFrom held world timed [] = Unit {0}
AreFreeFrom held world timed (one ∷ others) =
    IsFree held timed one.event × AreFreeFrom held world (happened_at world timed one) others

-- No delivery of a timed execution is over a held link.
abbrev pub TimedLogsCrossNoHeldLink : Type 0
TimedLogsCrossNoHeldLink = (world : World) (held : Held) (schedule : Schedule) (stamps : List Stamped) →
    IsTimedLog world held schedule stamps → AreFreeFrom held world timed_initial stamps

-- A timed log that is cut short is a timed log.
abbrev pub TimedLogsMayBeCut : Type 0
TimedLogsMayBeCut = (world : World) (held : Held) (schedule : Schedule) (stamps : List Stamped) (count : ℕ) →
    IsTimedLog world held schedule stamps → IsTimedLog world held schedule (take count stamps)
