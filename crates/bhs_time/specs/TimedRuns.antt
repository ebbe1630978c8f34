-- Timed executions: a match in which turns pass, whose deliveries are made by an oblivious schedule.
use Rattle.std.specs.Prelude.{ℕ, ◌+◌, Bool, true, false, Option, Some, None, List, [], ◌∷◌, ◌++◌}
use Rattle.std.specs.Prelude.{if◌then◌else◌, option_to_list}
use Rattle.bhs_model.specs.declared.commands.Command.{Command}
use Rattle.bhs_model.specs.declared.commands.Command.TheVariants.{Enter, Look, Write}
use Rattle.bhs_model.specs.declared.events.Event.{Event}
use Rattle.bhs_model.specs.declared.events.Event.TheVariants.{Tell, Deliver, Close}
use Rattle.bhs_model.specs.Worlds.{World}
use Rattle.bhs_model.specs.Runs.{Position, At, Bound, State, initial, changed, heard, told, arrives, arrived, next}
use Rattle.bhs_model.specs.Draws.{Held, delivery_to}
use Rattle.bhs_time.specs.TimedViews.{TimedView, Fresh, ToldAt, ArrivedAt, TimedGlance, NothingThen, SawThen}
use Rattle.bhs_time.specs.TimedViews.{TimedSight, SeenThen, TimedWrite, UnwrittenThen, WrittenThen, departed_at}
use Rattle.bhs_time.specs.Schedules.{Schedule}

-- How a match stands, how many turns have passed, the timed view of each agent, and the last write at each node with
-- the turns of its writer's past.
pub record TimedState : Type 0 where
  pub state : State
  pub turn : ℕ
  pub pasts : ℕ → TimedView
  pub writes : ℕ → TimedWrite

-- how each match begins
abbrev pub timed_initial : TimedState
timed_initial = record {
  state = initial;
  turn = 0;
  pasts = λ agent. Fresh;
  writes = λ node. UnwrittenThen;
}

-- An act on a match from outside; a timed execution is a list of acts.
pub data TimedAct : Type 0 where
  -- an agent says a command
  Says : (agent : ℕ) → Command → TimedAct
  -- a turn passes
  Passes : TimedAct
  -- the match is ended
  Ends : TimedAct

-- The Deliver of an agent that is ready, unless its link is held. A Deliver of an agent that is on no link, or on a
-- link that destroys, changes nothing.
abbrev pub delivery_if : Held → State → (agent : ℕ) → (is_ready : Bool) → Option Event
delivery_if held state agent true = delivery_to held state (Some agent)
delivery_if held state agent false = None

-- The event of a turn, given the turns of departure: a Deliver of the agent that the schedule picks, once due. Closed
-- matches have no further event.
abbrev pub delivery_in : Held → Schedule → State → (departed : ℕ → ℕ) → (turn : ℕ) → Option Event
delivery_in held schedule state departed turn =
    let agent = schedule.picked turn in
    if state.closed then None else delivery_if held state agent (schedule.ready agent (departed agent) turn)

-- the event of the next turn of a timed execution, if it has one
abbrev pub delivery_now : Held → Schedule → TimedState → Option Event
delivery_now held schedule timed =
    delivery_in held schedule timed.state (λ agent. departed_at (timed.pasts agent)) timed.turn

-- the event that a act makes, if any
abbrev pub event_of : Held → Schedule → TimedState → TimedAct → Option Event
event_of held schedule timed (Says agent command) = Some (Tell agent command)
event_of held schedule timed Passes = delivery_now held schedule timed
event_of held schedule timed Ends = Some Close

-- a node as an agent sees it that came by this label
abbrev pub sight_then : World → TimedState → (node : ℕ) → (came : Option ℕ) → TimedSight
sight_then world timed node came = SeenThen (world.net.degree node) came (timed.writes node)

-- what a heard command shows: Enter the home base, Look and Write the node where the agent is
abbrev pub glance_then : World → TimedState → Position → Command → TimedGlance
glance_then world timed position Enter = SawThen (sight_then world timed world.home None)
glance_then world timed (At node came) Look = SawThen (sight_then world timed node came)
glance_then world timed (At node came) (Write expect put) = SawThen (sight_then world timed node came)
glance_then world timed position command = NothingThen

-- the last writes after a heard command, where this is the agent's past with it: a write at a node is the last one
-- there, also a write that fails
abbrev pub writes_then : (ℕ → TimedWrite) → Position → Command → TimedView → ℕ → TimedWrite
writes_then writes (At node came) (Write expect put) past = changed writes node (WrittenThen past)
writes_then writes position command past = writes

-- the timed state after a command that is heard
abbrev pub told_then : World → TimedState → (agent : ℕ) → Command → TimedState
told_then world timed agent command =
    let position = timed.state.position agent in
    let past = ToldAt (timed.pasts agent) timed.turn command (glance_then world timed position command) in
    record {
      state = told world timed.state agent command;
      turn = timed.turn;
      pasts = changed timed.pasts agent past;
      writes = writes_then timed.writes position command past;
    }

-- the timed state after an agent arrives from this position
abbrev pub arrived_then : World → TimedState → (agent : ℕ) → Position → TimedState
arrived_then world timed agent (Bound node port) =
    let far = world.net.far node port in
    record {
      state = arrived world timed.state agent far.0 far.1;
      turn = timed.turn;
      pasts = changed timed.pasts agent
          (ArrivedAt (timed.pasts agent) timed.turn (sight_then world timed far.0 (Some far.1)));
      writes = timed.writes;
    }
arrived_then world timed agent position = timed

-- The timed state after an event. What is not heard changes nothing, nor does a Deliver without an arrival. The turn
-- stays: an event happens within a turn.
abbrev pub happened : World → TimedState → Event → TimedState
happened world timed (Tell agent command) =
    if heard world timed.state agent command then told_then world timed agent command else timed
happened world timed (Deliver agent) =
    if arrives world timed.state agent then arrived_then world timed agent (timed.state.position agent) else timed
happened world timed Close = record timed { state = next world timed.state Close }

-- the timed state after an optional event
abbrev pub happened_if : World → TimedState → Option Event → TimedState
happened_if world timed None = timed
happened_if world timed (Some event) = happened world timed event

-- how many turns have passed after an act
abbrev pub turn_after : (turn : ℕ) → TimedAct → ℕ
turn_after turn Passes = turn + 1
turn_after turn act = turn

-- the timed state after an act
abbrev pub timed_next : World → Held → Schedule → TimedState → TimedAct → TimedState
timed_next world held schedule timed act =
    let there = happened_if world timed (event_of held schedule timed act) in
    record there { turn = turn_after there.turn act }

-- the timed state after these acts
abbrev pub timed_run_from : World → Held → Schedule → TimedState → List TimedAct → TimedState
timed_run_from world held schedule timed [] = timed
timed_run_from world held schedule timed (act ∷ acts) = timed_run_from world held schedule
    (timed_next world held schedule timed act) acts

-- how a match stands after all acts of a timed execution
abbrev pub timed_run : World → Held → Schedule → List TimedAct → TimedState
timed_run world held schedule acts = timed_run_from world held schedule timed_initial acts

-- the events that these acts make
abbrev pub timed_events_from : World → Held → Schedule → TimedState → List TimedAct → List Event
timed_events_from world held schedule timed [] = []
timed_events_from world held schedule timed (act ∷ acts) =
    option_to_list (event_of held schedule timed act)
    ++ timed_events_from world held schedule (timed_next world held schedule timed act) acts

-- the events of a timed execution: a list of events of the model
abbrev pub timed_events : World → Held → Schedule → List TimedAct → List Event
timed_events world held schedule acts = timed_events_from world held schedule timed_initial acts
