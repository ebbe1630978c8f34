-- A step on a table: the new table and the mark of its reply. This describes the implementation; the simulation of the
-- model's step by it is proved.
use Rattle.std.specs.Prelude.{ℕ, ◌+◌, ◌<◌, ◌≡◌, Bool, true, false, not, ◌&&◌, Option, Some, None, List, length, nat_lt}
use Rattle.std.specs.Prelude.{nat_le, if◌then◌else◌, slice_set}
use Rattle.bhs_net.specs.Network.{Network, nodes_of, degree_of}
use Rattle.bhs_model.specs.declared.commands.Command.{Command}
use Rattle.bhs_model.specs.declared.commands.Command.TheVariants.{Enter, Look, Write, Depart, Accuse, Leave, Bad}
use Rattle.bhs_model.specs.declared.events.Event.{Event}
use Rattle.bhs_model.specs.declared.events.Event.TheVariants.{Tell, Deliver, Close}
use Rattle.bhs_model.specs.declared.marks.Mark.{Mark}
use Rattle.bhs_model.specs.declared.marks.Mark.TheVariants as marks
use Rattle.bhs_model.specs.declared.marks.Kept.{Kept}
use Rattle.bhs_model.specs.declared.replies.Why.{Why}
use Rattle.bhs_model.specs.declared.replies.Why.TheVariants as whys
use Rattle.bhs_model.specs.Views as views
use Rattle.bhs_model.specs.Replying.{accepts, refusal}
use Rattle.bhs_model.specs.Worlds.{World, doomed}
use Rattle.bhs_model.specs.Runs.{Position, At, Bound, position_after}
use Rattle.bhs_model.specs.Standings.{standing_at}
use Rattle.bhs_model.specs.Setups.{IsNormal}
use Rattle.bhs_model.specs.Marks.{text_at}
use Rattle.bhs_state.specs.Agents.{AgentState}
use Rattle.bhs_state.specs.declared.swaps.Swap.{Swap}
use Rattle.bhs_state.specs.declared.swaps.Swap.TheVariants.{Long, Differs, Took}
use Rattle.bhs_state.specs.Boards.{Whiteboard, swap_of, last_after}
use Rattle.bhs_world.specs.Faults.{IsWithinLimits}
use Rattle.bhs_world.specs.Tables.{Table, agent_at, board_at, world_in}

-- the reason to refuse a command, if it is refused
abbrev pub refusal_of : views.Standing → (room : Bool) → Command → Option Why
refusal_of standing room command = if accepts standing room command then None else Some (refusal standing command)

-- the agent after a command that is heard
abbrev pub agent_told : World → AgentState → Command → AgentState
agent_told world course command = record {
  position = position_after world course.position command;
  used = if views.counts command then course.used + 1 else course.used;
  lost = course.lost;
}

-- the mark of a reply at a node
abbrev pub mark_here : World → List Whiteboard → (node : ℕ) → (came : Option ℕ) → Mark
mark_here world boards node came = marks.Here (world.net.degree node) came (board_at boards node).last

-- what a write is answered
abbrev pub mark_of_swap : Swap → (last : Option ℕ) → Mark
mark_of_swap Long last = marks.No whys.Long
mark_of_swap Differs last = marks.Changed last
mark_of_swap Took last = marks.Written

-- what comes of a write
abbrev pub swap_at : List Kept → Whiteboard → (expect put : List ℕ) → Swap
swap_at log board expect put = swap_of board.limit (text_at log board.last) expect put

-- the whiteboard after a write that will stand next in the log
abbrev pub board_written : List Kept → Whiteboard → (expect put : List ℕ) → Whiteboard
board_written log board expect put = record {
  limit = board.limit;
  last = last_after (swap_at log board expect put)
      board.last (length log);
}

-- the whiteboards after a command that is heard of an agent at this position
abbrev pub boards_told : List Kept → List Whiteboard → Position → Command → List Whiteboard
boards_told log boards (At node came) (Write expect put) =
    slice_set boards node (board_written log (board_at boards node) expect put)
boards_told log boards position command = boards

-- what a command that is heard of an agent at this position is answered
abbrev pub mark_told : World → List Kept → List Whiteboard → Position → Command → Mark
mark_told world log boards position Leave = marks.Bye
mark_told world log boards position Enter = mark_here world boards world.home None
mark_told world log boards (At node came) Look = mark_here world boards node came
mark_told world log boards (At node came) (Write expect put) =
    mark_of_swap (swap_at log (board_at boards node) expect put) (board_at boards node).last
mark_told world log boards (At node came) (Depart port) =
    if nat_lt port (world.net.degree node) then marks.Gone else marks.No whys.Port
mark_told world log boards (At node came) (Accuse port) =
    if nat_lt port (world.net.degree node) then marks.Noted else marks.No whys.Port
mark_told world log boards (At node came) Bad = marks.No whys.Line
mark_told world log boards position command = marks.No whys.Away

-- whether the command is heard of the agent, the match being open
abbrev pub hears_in : Table → (agent : ℕ) → Command → Bool
hears_in table agent command =
    accepts (standing_at (agent_at table.agents agent).position)
    (nat_lt (agent_at table.agents agent).used table.setup.quota) command

abbrev pub heard_in : Table → (agent : ℕ) → Command → Bool
heard_in table agent command = nat_lt agent table.setup.agents && (not table.closed && hears_in table agent command)

-- the table after a command that is heard
abbrev pub table_heard : Table → List Kept → (agent : ℕ) → Command → Table
table_heard table log agent command = record table {
  agents = slice_set table.agents agent (agent_told (world_in table) (agent_at table.agents agent) command);
  boards = boards_told log table.boards (agent_at table.agents agent).position command;
}

abbrev pub mark_heard : Table → List Kept → (agent : ℕ) → Command → Mark
mark_heard table log agent command = mark_told (world_in table) log table.boards
    (agent_at table.agents agent).position command

-- what a command is answered
abbrev pub mark_of_command : Table → List Kept → (agent : ℕ) → Command → Mark
mark_of_command table log agent command =
    if nat_lt agent table.setup.agents
    then (if table.closed
    then marks.Over
    else (if hears_in table agent command
    then mark_heard table log agent command
    else marks.No (refusal (standing_at (agent_at table.agents agent).position) command)))
    else marks.No whys.Agent

-- the agent after a Deliver that finds it on this link
abbrev pub agent_delivered : World → AgentState → (node port : ℕ) → AgentState
agent_delivered world course node port =
    if doomed world node port
    then record { position = course.position; used = course.used; lost = true }
    else record {
      position = At (world.net.far node port).0 (Some (world.net.far node port).1);
      used = course.used;
      lost = course.lost;
    }

-- the table after a Deliver of an agent at this position
abbrev pub table_delivered : Table → (agent : ℕ) → Position → Table
table_delivered table agent (Bound node port) =
    record table {
      agents = slice_set table.agents agent
          (agent_delivered (world_in table) (agent_at table.agents agent) node port);
    }
table_delivered table agent position = table

-- what an agent is answered that arrives
abbrev pub mark_delivered : World → List Whiteboard → Position → Option Mark
mark_delivered world boards (Bound node port) =
    if doomed world node port then None else Some
    (mark_here world boards (world.net.far node port).0 (Some (world.net.far node port).1))
mark_delivered world boards position = None

-- the table after an event
abbrev pub table_after : Table → List Kept → Event → Table
table_after table log (Tell agent command) = if heard_in table agent command then table_heard table log agent
    command else table
table_after table log (Deliver agent) = if table.closed then table else table_delivered table agent
    (agent_at table.agents agent).position
table_after table log Close = record table { closed = true }

-- what is answered
abbrev pub mark_after : Table → List Kept → Event → Option Mark
mark_after table log (Tell agent command) = Some (mark_of_command table log agent command)
mark_after table log (Deliver agent) =
    if table.closed then None else mark_delivered (world_in table) table.boards (agent_at table.agents agent).position
mark_after table log Close = None

-- whether the table says of an agent at this position that a Deliver is kept
abbrev pub keeps_delivered : World → AgentState → Position → Bool
keeps_delivered world course (Bound node port) = if doomed world node port then not course.lost else true
keeps_delivered world course position = false

-- whether the event is kept
abbrev pub keeps_in : Table → Event → Bool
keeps_in table (Tell agent command) = heard_in table agent command
keeps_in table (Deliver agent) = not table.closed && keeps_delivered (world_in table) (agent_at table.agents agent)
    (agent_at table.agents agent).position
keeps_in table Close = not table.closed

-- The agent's node, or the departure node and port of its link, exists.
abbrev pub IsPlaced : Network → Position → Type 0
IsPlaced net (At node came) = node < nodes_of net
IsPlaced net (Bound node port) = (node < nodes_of net) × (port < degree_of net node)
IsPlaced net position = Unit {0}

-- what is true of each table that a world keeps
pub record IsSound (table : Table) : Type 0 where
  pub within : IsWithinLimits table.net table.setup
  pub ordered : IsNormal table.net table.setup
  pub agents : length table.agents ≡ table.setup.agents
  pub boards : length table.boards ≡ nodes_of table.net
  pub limits : (node : ℕ) → node < length table.boards → (board_at table.boards node).limit ≡ table.setup.board
  pub places : (agent : ℕ) → IsPlaced table.net (agent_at table.agents agent).position

-- ---- which answers speak of a whiteboard

-- whether a mark says what a whiteboard shows, or that it was written
abbrev pub is_of_board : Mark → Bool
is_of_board (marks.Here ports came board) = true
is_of_board marks.Written = true
is_of_board (marks.Changed board) = true
is_of_board mark = false

-- whether the reply to a command that is heard at this position shows a whiteboard
abbrev pub shows_from : (limit : ℕ) → Position → Command → Bool
shows_from limit position Enter = true
shows_from limit (At node came) Look = true
shows_from limit (At node came) (Write expect put) = nat_le (length put) limit
shows_from limit position command = false

-- whether the reply to a command shows a whiteboard
abbrev pub shows_in : Table → (agent : ℕ) → Command → Bool
shows_in table agent command =
    heard_in table agent command && shows_from table.setup.board (agent_at table.agents agent).position command
