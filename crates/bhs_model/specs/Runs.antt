-- The semantics of a match: a fold over its events, and the replies to events.
use Rattle.std.specs.Prelude.{ℕ, Bool, true, false, not, ◌&&◌, Option, Some, None, List, [], ◌∷◌, ◌++◌, if◌then◌else◌}
use Rattle.std.specs.Prelude.{◌==◌, nat_lt, filter}
use Rattle.bhs_model.specs.declared.commands.Command.{Command}
use Rattle.bhs_model.specs.declared.commands.Command.TheVariants.{Enter, Look, Write, Depart, Accuse, Leave}
use Rattle.bhs_model.specs.declared.events.Event.{Event}
use Rattle.bhs_model.specs.declared.events.Event.TheVariants.{Tell, Deliver, Close}
use Rattle.bhs_model.specs.declared.replies.Reply.{Reply}
use Rattle.bhs_model.specs.declared.replies.Reply.TheVariants.{Over, No}
use Rattle.bhs_model.specs.declared.replies.Why.TheVariants.{Agent}
use Rattle.bhs_model.specs.Views.{View, Start, Told, Arrived, Glance, Nothing, Saw, Sight, Seen, LastWrite, Unwritten}
use Rattle.bhs_model.specs.Views.{WrittenBy, standing}
use Rattle.bhs_model.specs.Replying.{rep, hears, refusal}
use Rattle.bhs_model.specs.Worlds.{World, doomed}

-- where an agent is
pub data Position : Type 0 where
  -- not in the network yet
  Before : Position
  -- The agent stands at a node; `came` is the label of its arrival link, None if it entered there.
  At : (node : ℕ) → (came : Option ℕ) → Position
  -- on the link that leaves the node by the port
  Bound : (node port : ℕ) → Position
  -- it has ended
  After : Position

-- how a match stands: of each agent its past and position, of each node the last write on its whiteboard,
-- the agents that departed, in order of their last departure, and whether the match has ended
pub record State : Type 0 where
  pub past : ℕ → View
  pub position : ℕ → Position
  pub last_write : ℕ → LastWrite
  pub departed : List ℕ
  pub closed : Bool

-- how each match begins
abbrev pub initial : State
initial = record {
  past = λ agent. Start;
  position = λ agent. Before;
  last_write = λ node. Unwritten;
  departed = [];
  closed = false;
}

-- the function that has a new value at one place
abbrev pub changed : {A : Type 0} → (ℕ → A) → ℕ → A → ℕ → A
changed f place value other = if other == place then value else f other

-- the node as an agent sees it that came by this label
abbrev pub sight_at : World → State → (node : ℕ) → (came : Option ℕ) → Sight
sight_at world state node came = Seen (world.net.degree node) came (state.last_write node)

-- what a heard command shows: Enter the home base, Look and Write the node where the agent is
abbrev pub glance : World → State → Position → Command → Glance
glance world state position Enter = Saw (sight_at world state world.home None)
glance world state (At node came) Look = Saw (sight_at world state node came)
glance world state (At node came) (Write expect put) = Saw (sight_at world state node came)
glance world state position command = Nothing

-- where a heard command leaves the agent
abbrev pub position_after : World → Position → Command → Position
position_after world position Enter = At world.home None
position_after world position Leave = After
position_after world (At node came) (Depart port) =
    if nat_lt port (world.net.degree node) then Bound node port else At node came
position_after world (At node came) (Accuse port) =
    if nat_lt port (world.net.degree node) then After else At node came
position_after world position command = position

-- the last writes after a heard command, where the agent's past with it is this one: a write at a node is
-- the last one there, also a write that fails
abbrev pub last_writes_after : (ℕ → LastWrite) → Position → Command → View → ℕ → LastWrite
last_writes_after last_writes (At node came) (Write expect put) past = changed last_writes node (WrittenBy past)
last_writes_after last_writes position command past = last_writes

-- whether the agent travels on a link
abbrev pub is_bound : Position → Bool
is_bound (Bound node port) = true
is_bound position = false

-- the agents in order of their last departure, where this agent may now have departed
abbrev pub departed_after : List ℕ → (agent : ℕ) → (old new : Position) → List ℕ
departed_after departed agent (At node came) (Bound from port) =
    filter (λ other. not (other == agent)) departed ++ agent ∷ []
departed_after departed agent old new = departed

-- the state after a command that is heard
abbrev pub told : World → State → (agent : ℕ) → Command → State
told world state agent command =
    let position = state.position agent in
    let past = Told (state.past agent) command (glance world state position command) in
    record {
      past = changed state.past agent past;
      position = changed state.position agent (position_after world position command);
      last_write = last_writes_after state.last_write position command past;
      departed = departed_after state.departed agent position (position_after world position command);
      closed = state.closed;
    }

-- the state after an agent's arrival at a node, by the link with this label there
abbrev pub arrived : World → State → (agent node label : ℕ) → State
arrived world state agent node label = record state {
  past = changed state.past agent (Arrived (state.past agent) (sight_at world state node (Some label)));
  position = changed state.position agent (At node (Some label));
}

-- whether a command is heard
abbrev pub heard : World → State → (agent : ℕ) → Command → Bool
heard world state agent command =
    nat_lt agent world.agents && (not state.closed && hears world.quota (state.past agent) command)

-- whether the agent travels on a link that will destroy it
abbrev pub is_doomed : World → Position → Bool
is_doomed world (Bound node port) = doomed world node port
is_doomed world position = false

-- whether an agent at this position is on a link that lets it arrive in the end
abbrev pub is_let_through : World → Position → Bool
is_let_through world position = is_bound position && not (is_doomed world position)

-- whether a Deliver makes the agent arrive
abbrev pub arrives : World → State → (agent : ℕ) → Bool
arrives world state agent = not state.closed && is_let_through world (state.position agent)

-- the state after an agent at this position arrives at the far end of its link
abbrev pub delivered : World → State → (agent : ℕ) → Position → State
delivered world state agent (Bound node port) =
    let far = world.net.far node port in arrived world state agent far.0 far.1
delivered world state agent position = state

-- the state after an event. What is not heard changes nothing, nor does a Deliver without an arrival: an
-- agent that was destroyed is still on its link.
abbrev pub next : World → State → Event → State
next world state (Tell agent command) =
    if heard world state agent command then told world state agent command else state
next world state (Deliver agent) =
    if arrives world state agent then delivered world state agent (state.position agent) else state
next world state Close = record state { closed = true }

-- the state after these events
abbrev pub run_from : World → State → List Event → State
run_from world state [] = state
run_from world state (event ∷ events) = run_from world (next world state event) events

-- the state after all events of a match
abbrev pub run : World → List Event → State
run world events = run_from world initial events

abbrev pub past : World → List Event → (agent : ℕ) → View
past world events agent = (run world events).past agent

-- the reply to a command of an agent that plays
abbrev pub reply_in_play : World → State → (agent : ℕ) → Command → Option Reply
reply_in_play world state agent command =
    if hears world.quota (state.past agent) command
    then rep world.board ((next world state (Tell agent command)).past agent)
    else Some (No (refusal (standing (state.past agent)) command))

-- the reply to a command: first comes a number without an agent, and then the close
abbrev pub reply_to_command : World → State → (agent : ℕ) → Command → Option Reply
reply_to_command world state agent command =
    if nat_lt agent world.agents
    then (if state.closed then Some Over else reply_in_play world state agent command)
    else Some (No Agent)

-- the optional reply to an event
abbrev pub reply : World → State → Event → Option Reply
reply world state (Tell agent command) = reply_to_command world state agent command
reply world state (Deliver agent) =
    if arrives world state agent
    then rep world.board ((next world state (Deliver agent)).past agent)
    else None
reply world state Close = None
