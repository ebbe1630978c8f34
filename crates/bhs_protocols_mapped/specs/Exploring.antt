-- Two agents with a map search any network by a guide. Agent 0 explores the nodes of side 0 and agent 1 those of side
-- 1, one node at a time: the agent walks out to the next node past safe nodes of its side, returns, and writes on the
-- home base's whiteboard how many nodes of each side are safe. The last unexplored node is the black hole: an agent
-- that reads so walks to the last link before that node and accuses the link.
use Rattle.std.specs.Prelude.{ℕ, zero, suc, ◌+◌, ◌-◌, ◌*◌, ◌==◌, Bool, ◌&&◌, List, if◌then◌else◌}
use Rattle.bhs_model.specs.declared.commands.Command.TheVariants.{Enter, Write, Depart, Accuse}
use Rattle.bhs_model.specs.declared.replies.Reply.TheVariants.{Here, Written, Changed, Gone, Noted}
use Rattle.bhs_schedules.specs.declared.answers.Step.{Step}
use Rattle.bhs_schedules.specs.declared.answers.Step.TheVariants.{Says, Stops}
use Rattle.bhs_schedules.specs.Strategies.{Observation, Heard}
use Rattle.bhs_protocols.specs.Invariants.{CostBounds}
use Rattle.bhs_protocols.specs.Programs.{Program}
use Rattle.bhs_protocols.specs.Shuttle.{other_in, text_by}
use Rattle.bhs_protocols_mapped.specs.Guides.{Route, Guide}

-- the phase of an agent, with the step on its route to the next node of its side
pub data Phase : Type 0 where
  Begins : Phase
  GoesOut : (step : ℕ) → Phase
  Leaves : (step : ℕ) → Phase
  ComesBack : (step : ℕ) → Phase
  Returns : (step : ℕ) → Phase
  Writes : Phase
  Ends : Phase

-- The memory of an agent: its side, how many nodes of each side it knows to be safe, and its phase.
pub record Memory : Type 0 where
  pub side : ℕ
  pub mine : ℕ
  pub theirs : ℕ
  pub phase : Phase

-- the way to the next node of its side
abbrev pub way_of : Guide → Memory → Route
way_of guide memory = guide.route memory.side (memory.mine + 1)

-- whether one node is left
abbrev pub is_one_left : (n : ℕ) → Memory → Bool
is_one_left n memory = memory.mine + memory.theirs + 2 == n

-- what an agent does
abbrev pub does_in : (n : ℕ) → Guide → Memory → Phase → Step
does_in n guide memory Begins = Says Enter
does_in n guide memory (GoesOut step) =
    if step + 1 == (way_of guide memory).steps && is_one_left n memory
    then Says (Accuse ((way_of guide memory).ahead step))
    else Says (Depart ((way_of guide memory).ahead step))
does_in n guide memory (ComesBack step) = Says (Depart ((way_of guide memory).behind step))
does_in n guide memory Writes =
    Says (Write (text_by memory.side memory.mine memory.theirs) (text_by memory.side (memory.mine + 1) memory.theirs))
does_in n guide memory phase = Stops

-- it has come out to this step: it turns back if that is the new node
abbrev pub came_out : Guide → Memory → (step : ℕ) → Memory
came_out guide memory step =
    if step == (way_of guide memory).steps
    then record memory { phase = ComesBack step }
    else record memory { phase = GoesOut step }

-- it has come back to this step, or to the home base
abbrev pub came_back : Memory → (step : ℕ) → (board : List ℕ) → Memory
came_back memory zero board = record memory { phase = Writes; theirs = other_in memory.side board }
came_back memory (suc step) board = record memory { phase = ComesBack (suc step) }

-- what an agent holds after something has happened
abbrev pub after_in : Guide → Memory → Phase → Observation → Memory
after_in guide memory Begins (Heard (Here ports came board)) =
    record memory { theirs = other_in memory.side board; phase = GoesOut 0 }
after_in guide memory (GoesOut step) (Heard Gone) = record memory { phase = Leaves step }
after_in guide memory (GoesOut step) (Heard Noted) = record memory { phase = Ends }
after_in guide memory (Leaves step) (Heard (Here ports came board)) = came_out guide memory (step + 1)
after_in guide memory (ComesBack step) (Heard Gone) = record memory { phase = Returns step }
after_in guide memory (Returns step) (Heard (Here ports came board)) = came_back memory (step - 1) board
after_in guide memory Writes (Heard Written) = record memory { mine = memory.mine + 1; phase = GoesOut 0 }
after_in guide memory Writes (Heard (Changed board)) = record memory { theirs = other_in memory.side board }
after_in guide memory phase item = memory

-- the program: agent 0 explores side 0, and agent 1 side 1
abbrev pub explorers : (n : ℕ) → Guide → Program Memory
explorers n guide = record {
  start = λ agent. record { side = agent; mine = 0; theirs = 0; phase = Begins };
  after = λ memory item. after_in guide memory memory.phase item;
  does = λ memory. does_in n guide memory memory.phase;
}

-- ---- what it costs

-- how many moves it takes to go out to each of the first k nodes of a side, and come back each time
abbrev pub round_trips_by : Guide → (side k : ℕ) → ℕ
round_trips_by guide side zero = 0
round_trips_by guide side (suc k) = round_trips_by guide side k + 2 * (guide.route side (suc k)).steps

-- the most moves on a side where the black hole has this number
abbrev pub moves_by : Guide → (side distance : ℕ) → ℕ
moves_by guide side distance = round_trips_by guide side (distance - 1) + (guide.route side distance).steps

-- and the most commands, on n nodes
abbrev pub commands_by : Guide → (n side distance : ℕ) → ℕ
commands_by guide n side distance = moves_by guide side distance + n

-- what it costs if the black hole has the number `one` on side 0 and `other` on side 1
abbrev pub guided_bounds : Guide → (n one other : ℕ) → CostBounds
guided_bounds guide n one other = record {
  moves = moves_by guide 0 one + moves_by guide 1 other - 1;
  lost = 1;
  commands = λ agent. if agent == 0 then commands_by guide n 0 one
      else (if agent == 1 then commands_by guide n 1 other else 0);
  turns = commands_by guide n 0 one + moves_by guide 0 one + 1
      + (commands_by guide n 1 other + moves_by guide 1 other + 1);
}
