-- What a world keeps, and what it means that this stands for what happened.
use Rattle.std.specs.Prelude.{ℕ, ◌++◌, ◌∷◌, Bool, true, false, Option, Some, None, List, [], ◌≡◌, IfSome, IsSome}
use Rattle.std.specs.Prelude.{if◌then◌else◌, option_and_then, map, slice_index_or}
use Rattle.std.specs.List.{AllByRecursion}
use Rattle.bhs_net.specs.Network.{Network}
use Rattle.bhs_model.specs.declared.setups.Setup.{Setup}
use Rattle.bhs_model.specs.declared.events.Event.{Event}
use Rattle.bhs_model.specs.declared.marks.Mark.{Mark}
use Rattle.bhs_model.specs.declared.marks.Kept.{Kept}
use Rattle.bhs_model.specs.declared.replies.Reply.{Reply}
use Rattle.bhs_model.specs.declared.replies.Reply.TheVariants as replies
use Rattle.bhs_model.specs.Views.{used}
use Rattle.bhs_model.specs.Replying.{text}
use Rattle.bhs_model.specs.Worlds.{World}
use Rattle.bhs_model.specs.Runs.{State, run}
use Rattle.bhs_model.specs.InOrder.{replies as replies_of}
use Rattle.bhs_model.specs.Kept.{lost, keeps}
use Rattle.bhs_model.specs.Places.{written, names}
use Rattle.bhs_model.specs.Setups.{world_of}
use Rattle.bhs_model.specs.Marks.{events_of, put_at, read_if, board_of}
use Rattle.bhs_state.specs.Agents.{AgentState, newcomer}
use Rattle.bhs_state.specs.Boards.{Whiteboard}

-- The state of a match: its network and setup, its agents by number, its whiteboards by node, and whether it has ended.
pub record Table : Type 0 where
  pub net : Network
  pub setup : Setup
  pub agents : List AgentState
  pub boards : List Whiteboard
  pub closed : Bool

-- The state of an agent by its number; a number without an agent reads as an agent that has not entered.
abbrev pub agent_at : List AgentState → ℕ → AgentState
agent_at agents agent = slice_index_or agents agent newcomer

abbrev pub untouched : Whiteboard
untouched = record { limit = 0; last = None }

-- the whiteboard of a node
abbrev pub board_at : List Whiteboard → ℕ → Whiteboard
board_at boards node = slice_index_or boards node untouched

-- the world of the definitions
abbrev pub world_in : Table → World
world_in table = world_of table.net table.setup

-- The implementation's state of an agent agrees with the model's.
pub record IsCourseOf (course : AgentState) (state : State) (is_lost : Bool) (agent : ℕ) : Type 0 where
  pub position : state.position agent ≡ course.position
  pub used : used (state.past agent) ≡ course.used
  pub lost : is_lost ≡ course.lost

-- a whiteboard that names this place shows this text: a Write stands there that put it, or no place is named and the
-- text is empty
abbrev pub Shows : List Kept → (board : Option ℕ) → (shown : List ℕ) → Type 0
Shows log None shown = shown ≡ []
Shows log (Some place) shown = put_at log place ≡ Some shown

-- the table agrees with a state of the definitions and with who is lost
pub record Agrees (table : Table) (log : List Kept) (state : State) (lost : ℕ → Bool) : Type 0 where
  pub agents : (agent : ℕ) → IsCourseOf (agent_at table.agents agent) state (lost agent) agent
  pub boards : (node : ℕ) → Shows log (board_at table.boards node).last (text table.setup.board (state.last_write node))
  pub closed : state.closed ≡ table.closed

-- where a mark names a place, a Write stands there
abbrev pub IsNamed : List Kept → Option Mark → Type 0
IsNamed log mark = IfSome (option_and_then board_of mark) (λ place. IsSome (put_at log place))

-- The table stands for the events of a log: it agrees with the state that they lead to; each whiteboard names the last
-- Write there that put its text; and the marks beside the events are read as the definitions' replies, and name the
-- places that these replies name.
pub record StandsFor (table : Table) (log : List Kept) : Type 0 where
  pub state : Agrees table log (run (world_in table) (events_of log)) (lost (world_in table) (events_of log))
  pub replies : map (λ kept. read_if log kept.mark) log ≡ replies_of (world_in table) (events_of log)
  pub named : AllByRecursion (λ kept. IsNamed log kept.mark) log
  pub last : (node : ℕ) → (board_at table.boards node).last ≡ written (world_in table) (events_of log) node
  pub shown : map (λ kept. option_and_then board_of kept.mark) log ≡ names (world_in table) (events_of log)

-- whether a reply says what a whiteboard shows, or that it was written
abbrev pub is_of_board : Reply → Bool
is_of_board (replies.Here ports came board) = true
is_of_board replies.Written = true
is_of_board (replies.Changed board) = true
is_of_board reply = false

abbrev pub is_of_board_if : Option Reply → Bool
is_of_board_if (Some reply) = is_of_board reply
is_of_board_if None = false

-- whether the next event is kept
abbrev pub keeps_next : World → List Kept → Event → Bool
keeps_next world log event = keeps world (run world (events_of log)) (lost world (events_of log)) event

-- the log after an event: extended by the event and its mark if the event is kept
abbrev pub log_after : World → List Kept → Event → Option Mark → List Kept
log_after world log event mark = if keeps_next world log event then log
    ++ record { event = event; mark = mark } ∷ [] else log
