-- A search of a ring by two agents that know its number of nodes and divide what is left into halves. Each explores its
-- part of its own side cautiously: out to the next node, back, and a mark on the whiteboard of the last safe node that
-- the link ahead is safe. An agent that has explored its part goes to the last safe node of the other side, divides
-- what is left anew, tells that there, and goes back. An agent that knows that one node is left accuses the link to it.
use Rattle.std.specs.Prelude.{ℕ, zero, suc, ◌+◌, ◌-◌, ◌/◌, ◌==◌, Bool, ◌&&◌, Some, List, if◌then◌else◌}
use Rattle.bhs_model.specs.declared.commands.Command.{Command}
use Rattle.bhs_model.specs.declared.commands.Command.TheVariants.{Enter, Write, Depart, Accuse}
use Rattle.bhs_model.specs.declared.replies.Reply.TheVariants.{Here, Written, Changed, Gone, Noted}
use Rattle.bhs_model.specs.Examples.{none_held}
use Rattle.bhs_model.specs.Worlds.{World}
use Rattle.bhs_schedules.specs.declared.answers.Step.{Step}
use Rattle.bhs_schedules.specs.declared.answers.Step.TheVariants.{Says, Stops}
use Rattle.bhs_schedules.specs.Strategies.{Observation, Heard}
use Rattle.bhs_schedules.specs.Schedules.{Trial}
use Rattle.bhs_protocols.specs.declared.halves.Memory.{Memory}
use Rattle.bhs_protocols.specs.declared.halves.Phase.{Phase}
use Rattle.bhs_protocols.specs.declared.halves.Phase.TheVariants.{Begins, GoesOut, Leaves, Tries, Turns, Returns}
use Rattle.bhs_protocols.specs.declared.halves.Phase.TheVariants.{Writes}
use Rattle.bhs_protocols.specs.declared.halves.Phase.TheVariants.{GoesHome, NearsHome, Follows, Passes, Tells}
use Rattle.bhs_protocols.specs.declared.halves.Phase.TheVariants.{ComesHome, NearsBack, Ends}
use Rattle.bhs_protocols.specs.Programs.{Program, strategies_by}
use Rattle.bhs_protocols.specs.Shuttle.{right_in, left_in, other_in, text_by}

-- ---- the whiteboard

-- The search by halves. A whiteboard has a mark for each side, which belongs to the link that leads on from its node on
-- that side. 0: nothing is known; 1: the link is safe; 2 + k: the unexplored nodes were divided anew, by an agent that
-- had explored k nodes of its own side.

-- the mark of this side on a whiteboard
abbrev pub own_in : (side : ℕ) → List ℕ → ℕ
own_in side text = if side == 0 then right_in text else left_in text

-- how far an agent that knows of `safe` safe nodes is to explore: as far as `target`, or as the mark ahead says
abbrev pub target_by : (n mine target mark : ℕ) → ℕ
target_by n mine target zero = target
target_by n mine target (suc zero) = target
target_by n mine target (suc (suc theirs)) = mine + (n - mine - theirs) / 2

-- and how many nodes of the other side were safe at the division
abbrev pub theirs_by : (theirs mark : ℕ) → ℕ
theirs_by theirs zero = theirs
theirs_by theirs (suc zero) = theirs
theirs_by theirs (suc (suc told)) = told

-- ---- the program

-- how many nodes are left, with these numbers of safe nodes on the two sides
abbrev pub left_by : (n mine theirs : ℕ) → ℕ
left_by n mine theirs = n - 1 - mine - theirs

-- at its last safe node, with its part explored
abbrev pub is_done : Memory → (steps : ℕ) → Bool
is_done m steps = steps == m.mine && m.mine == m.target

-- what an agent does
abbrev pub does_in : (n : ℕ) → Memory → Phase → Step
does_in n m Begins = Says Enter
does_in n m (GoesOut steps port) =
    if is_done m steps
    then (if left_by n m.mine m.theirs == 1 then Says (Accuse port) else Says (Depart (1 - port)))
    else Says (Depart port)
does_in n m (Turns port) = Says (Depart port)
does_in n m (Writes port) = Says (Write (text_by m.side m.own m.other) (text_by m.side 1 m.other))
does_in n m (GoesHome steps port) = Says (Depart port)
does_in n m (Follows steps port) = Says (Depart port)
does_in n m (Tells steps port) =
    if left_by n m.mine steps == 1
    then Says (Accuse port)
    else Says (Write (text_by m.side m.own m.other) (text_by m.side m.own (m.mine + 2)))
does_in n m (ComesHome steps port) = Says (Depart port)
does_in n m phase = Stops

-- it has left a node of its own side
abbrev pub left_from : Memory → (steps : ℕ) → Memory
left_from m steps =
    if is_done m steps
    then record m { phase = NearsHome steps }
    else (if steps == m.mine then record m { phase = Tries } else record m { phase = Leaves steps })

-- it has read a whiteboard
abbrev pub read : Memory → List ℕ → Memory
read m board = record m { own = own_in m.side board; other = other_in m.side board }

-- it has read the whiteboard of its last safe node
abbrev pub learned : (n : ℕ) → Memory → (port : ℕ) → List ℕ → Memory
learned n m port board = record (read m board) {
  target = target_by n m.mine m.target (own_in m.side board);
  theirs = theirs_by m.theirs (own_in m.side board);
  phase = Writes port;
}

-- it has read a whiteboard of the other side: it goes on if the link ahead is safe
abbrev pub follows : Memory → (steps port : ℕ) → List ℕ → Memory
follows m steps port board =
    if other_in m.side board == 1
    then record (read m board) { phase = Follows steps port }
    else record (read m board) { phase = Tells steps port }

-- it has come to a node on its way home, to divide
abbrev pub came_near : Memory → (steps label : ℕ) → List ℕ → Memory
came_near m zero label board = follows m 0 (1 - label) board
came_near m (suc steps) label board = record m { phase = GoesHome (suc steps) (1 - label) }

-- it goes back from this node of the other side
abbrev pub goes_back : Memory → (steps port : ℕ) → Memory
goes_back m zero port = record m { phase = GoesOut 0 port }
goes_back m (suc steps) port = record m { phase = ComesHome (suc steps) port }

-- The agent has divided the unexplored nodes.
abbrev pub divided : (n : ℕ) → Memory → (steps port : ℕ) → Memory
divided n m steps port = goes_back (record m {
  theirs = steps;
  target = m.mine + left_by n m.mine steps / 2;
}) steps (1 - port)

-- what an agent holds after something has happened
abbrev pub after_in : (n : ℕ) → Memory → Phase → Observation → Memory
after_in n m Begins (Heard (Here ports came board)) = record m { phase = GoesOut 0 m.side }
after_in n m (GoesOut steps port) (Heard Gone) = left_from m steps
after_in n m (GoesOut steps port) (Heard Noted) = record m { phase = Ends }
after_in n m (Leaves steps) (Heard (Here ports (Some label) board)) =
    record m { phase = GoesOut (steps + 1) (1 - label) }
after_in n m Tries (Heard (Here ports (Some label) board)) = record m { phase = Turns label }
after_in n m (Turns port) (Heard Gone) = record m { phase = Returns }
after_in n m Returns (Heard (Here ports (Some label) board)) = learned n m label board
after_in n m (Writes port) (Heard Written) = record m { mine = m.mine + 1; phase = GoesOut m.mine port }
after_in n m (Writes port) (Heard (Changed board)) = learned n m port board
after_in n m (GoesHome steps port) (Heard Gone) = record m { phase = NearsHome steps }
after_in n m (NearsHome steps) (Heard (Here ports (Some label) board)) = came_near m (steps - 1) label board
after_in n m (Follows steps port) (Heard Gone) = record m { phase = Passes steps }
after_in n m (Passes steps) (Heard (Here ports (Some label) board)) = follows m (steps + 1) (1 - label) board
after_in n m (Tells steps port) (Heard Noted) = record m { phase = Ends }
after_in n m (Tells steps port) (Heard Written) = divided n m steps port
after_in n m (Tells steps port) (Heard (Changed board)) = follows m steps port board
after_in n m (ComesHome steps port) (Heard Gone) = record m { phase = NearsBack steps }
after_in n m (NearsBack steps) (Heard (Here ports (Some label) board)) = goes_back m (steps - 1) (1 - label)
after_in n m phase item = m

-- the program, for a ring of n nodes: agent 0 explores the side of port 0, and agent 1 that of port 1; the first half
-- is the greater one
abbrev pub halves : (n : ℕ) → Program Memory
halves n = record {
  start = λ agent. record {
    side = agent;
    mine = 0;
    theirs = 0;
    own = 0;
    other = 0;
    phase = Begins;
    target = if agent == 0 then n / 2 else (n - 1) / 2;
  };
  after = λ m item. after_in n m m.phase item;
  does = λ m. does_in n m m.phase;
}

-- two agents that run it on a ring of n nodes, where no link is held
abbrev pub halves_trial : World → (wakeups n : ℕ) → Trial
halves_trial world wakeups n = record {
  world = world;
  held = none_held;
  wakeups = wakeups;
  strategies =
      strategies_by (halves n);
}

-- ---- values that the contracts of the program name

abbrev pub says : Command → Step
says command = Says command

abbrev pub out_at : (steps port : ℕ) → Phase
out_at steps port = GoesOut steps port

abbrev pub tells_at : (steps port : ℕ) → Phase
tells_at steps port = Tells steps port

-- how many steps an agent is from the home base, or was when it left the node
abbrev pub steps_of : Phase → ℕ
steps_of (GoesOut steps port) = steps
steps_of (Leaves steps) = steps
steps_of (GoesHome steps port) = steps
steps_of (NearsHome steps) = steps
steps_of (Follows steps port) = steps
steps_of (Passes steps) = steps
steps_of (Tells steps port) = steps
steps_of (ComesHome steps port) = steps
steps_of (NearsBack steps) = steps
steps_of phase = 0
