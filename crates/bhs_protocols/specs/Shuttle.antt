-- The shuttle: a search of a ring by two agents that know its number of nodes. One explores the side of the home base's
-- port 0, the other the side of its port 1, each one node at a time: it goes out to the next node and comes back, and
-- writes on the home base's whiteboard how many nodes of each side are safe. Once one node is left, that is the black
-- hole: an agent that knows it goes to its own last safe node, and accuses the link ahead.
use Rattle.std.specs.Prelude.{ℕ, zero, suc, ◌+◌, ◌-◌, ◌*◌, ◌/◌, ◌%◌, ◌==◌, Bool, ◌&&◌, Some, List}
use Rattle.std.specs.Prelude.{[], ◌∷◌, if◌then◌else◌}
use Rattle.bhs_model.specs.declared.commands.Command.{Command}
use Rattle.bhs_model.specs.declared.commands.Command.TheVariants.{Enter, Write, Depart, Accuse}
use Rattle.bhs_model.specs.declared.replies.Reply.TheVariants.{Here, Written, Changed, Gone, Noted}
use Rattle.bhs_schedules.specs.declared.answers.Step.{Step}
use Rattle.bhs_schedules.specs.declared.answers.Step.TheVariants.{Says, Stops}
use Rattle.bhs_schedules.specs.Strategies.{Observation, Heard}
use Rattle.bhs_protocols.specs.declared.shuttle.Memory.{Memory}
use Rattle.bhs_protocols.specs.declared.shuttle.Phase.{Phase}
use Rattle.bhs_protocols.specs.declared.shuttle.Phase.TheVariants.{Begins, GoesOut, Leaves, ComesBack, Returns, Writes}
use Rattle.bhs_protocols.specs.declared.shuttle.Phase.TheVariants.{Ends}
use Rattle.bhs_protocols.specs.Programs.{Program}

-- ---- the whiteboard

-- Two characters for each side: how many nodes of it are safe, by 64s and by ones, each above the code of a blank.
-- Before anybody has explored anything the whiteboard is empty.
abbrev pub board_text : (right left : ℕ) → List ℕ
board_text zero zero = []
board_text right left = (32 + right / 64) ∷ (32 + right % 64) ∷ (32 + left / 64) ∷ (32 + left % 64) ∷ []

abbrev pub right_in : List ℕ → ℕ
right_in (a ∷ b ∷ rest) = (a - 32) * 64 + (b - 32)
right_in text = 0

abbrev pub left_in : List ℕ → ℕ
left_in (a ∷ b ∷ rest) = right_in rest
left_in text = 0

-- how many nodes of the side across from this one are safe, by a whiteboard
abbrev pub other_in : (side : ℕ) → List ℕ → ℕ
other_in side text = if side == 0 then left_in text else right_in text

-- the text that says how many nodes of this side and of the other are safe
abbrev pub text_by : (side mine theirs : ℕ) → List ℕ
text_by side mine theirs = if side == 0 then board_text mine theirs else board_text theirs mine

-- ---- the program

-- whether one node is left
abbrev pub is_one_left : (n : ℕ) → Memory → Bool
is_one_left n memory = memory.mine + memory.theirs + 2 == n

-- what an agent does
abbrev pub does_in : (n : ℕ) → Memory → Phase → Step
does_in n memory Begins = Says Enter
does_in n memory (GoesOut steps port) =
    if steps == memory.mine && is_one_left n memory then Says (Accuse port) else Says (Depart port)
does_in n memory (ComesBack steps port) = Says (Depart port)
does_in n memory Writes =
    Says (Write (text_by memory.side memory.mine memory.theirs) (text_by memory.side (memory.mine + 1) memory.theirs))
does_in n memory phase = Stops

-- it has come out to a node, by this label: it turns back if the node is new
abbrev pub came_out : Memory → (steps label : ℕ) → Memory
came_out memory steps label =
    if steps == memory.mine + 1
    then record memory { phase = ComesBack steps label }
    else record memory { phase = GoesOut steps (1 - label) }

-- it has come back to a node, by this label, or to the home base
abbrev pub came_back : Memory → (steps label : ℕ) → (board : List ℕ) → Memory
came_back memory zero label board = record memory { phase = Writes; theirs = other_in memory.side board }
came_back memory (suc steps) label board = record memory { phase = ComesBack (suc steps) (1 - label) }

-- what an agent holds after something has happened
abbrev pub after_in : Memory → Phase → Observation → Memory
after_in memory Begins (Heard (Here ports came board)) =
    record memory { theirs = other_in memory.side board; phase = GoesOut 0 memory.side }
after_in memory (GoesOut steps port) (Heard Gone) = record memory { phase = Leaves steps }
after_in memory (GoesOut steps port) (Heard Noted) = record memory { phase = Ends }
after_in memory (Leaves steps) (Heard (Here ports (Some label) board)) = came_out memory (steps + 1) label
after_in memory (ComesBack steps port) (Heard Gone) = record memory { phase = Returns steps }
after_in memory (Returns steps) (Heard (Here ports (Some label) board)) = came_back memory (steps - 1) label board
after_in memory Writes (Heard Written) =
    record memory { mine = memory.mine + 1; phase = GoesOut 0 memory.side }
after_in memory Writes (Heard (Changed board)) = record memory { theirs = other_in memory.side board }
after_in memory phase item = memory

-- the program, for a ring of n nodes: agent 0 explores the side of port 0, and agent 1 that of port 1
abbrev pub shuttle : (n : ℕ) → Program Memory
shuttle n = record {
  start = λ agent. record { side = agent; mine = 0; theirs = 0; phase = Begins };
  after = λ memory item. after_in memory memory.phase item;
  does = λ memory. does_in n memory memory.phase;
}

-- ---- what it costs

-- how many moves it takes to go out to this number of nodes, one after the other, and come back each time
abbrev pub round_trips : ℕ → ℕ
round_trips zero = 0
round_trips (suc k) = round_trips k + (2 * k + 2)

-- the most moves on a side with the black hole at this distance
abbrev pub moves_on : (distance : ℕ) → ℕ
moves_on distance = round_trips (distance - 1) + distance

-- and the most commands
abbrev pub commands_on : (n distance : ℕ) → ℕ
commands_on n distance = moves_on distance + n

-- ---- values that the contracts of the program name

abbrev pub says : Command → Step
says command = Says command

abbrev pub begins : Phase
begins = Begins

abbrev pub out_at : (steps port : ℕ) → Phase
out_at steps port = GoesOut steps port

abbrev pub leaves_at : (steps : ℕ) → Phase
leaves_at steps = Leaves steps

abbrev pub back_at : (steps port : ℕ) → Phase
back_at steps port = ComesBack steps port

abbrev pub returns_at : (steps : ℕ) → Phase
returns_at steps = Returns steps

abbrev pub writes : Phase
writes = Writes

-- how many steps an agent is from the home base, or was when it left the node
abbrev pub steps_of : Phase → ℕ
steps_of (GoesOut steps port) = steps
steps_of (Leaves steps) = steps
steps_of (ComesBack steps port) = steps
steps_of (Returns steps) = steps
steps_of phase = 0
