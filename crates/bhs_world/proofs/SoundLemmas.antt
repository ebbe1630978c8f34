-- A step keeps a table sound.
use Rattle.std.proofs.Common.{◌≡◌, ℕ, ◌<◌, List, ◌++◌, length, take, drop, refl, sym, ap, ◌∙◌, subst, inl, inr}
use Rattle.std.proofs.Common.{arith, length-set}
use Rattle.std.specs.Prelude.{slice_set, slice_index_or}
use Rattle.std.proofs.lemmas.List.{get_or_read}
use Rattle.std.proofs.Math.Seq.{take-append_seam}
use Rattle.bhs_net.specs.Network.{Network, nodes_of, degree_of}
use Rattle.bhs_model.specs.declared.setups.Setup.{Setup}
use Rattle.bhs_model.specs.declared.commands.Command.{Command}
use Rattle.bhs_model.specs.declared.commands.Command.TheVariants.{Enter, Look, Write, Depart, Accuse, Leave, Bad}
use Rattle.bhs_model.specs.declared.marks.Kept.{Kept}
use Rattle.bhs_model.specs.Runs.{Position, Before, At, Bound, After, position_after}
use Rattle.bhs_model.specs.Setups.{world_of}
use Rattle.bhs_state.specs.Boards.{Whiteboard}
use Rattle.bhs_state.specs.Agents.{AgentState, newcomer}
use Rattle.bhs_world.specs.Tables.{Table, agent_at, board_at, untouched, world_in}
use Rattle.bhs_world.specs.Steps.{IsSound, IsPlaced, agent_told, boards_told, board_written, table_heard}
use Rattle.bhs_world.proofs.ListLemmas.{each_set, lt_tells}

-- where a heard command leaves an agent
pub placed_after : (net : Network) (setup : Setup) (position : Position) (command : Command) → setup.home < nodes_of net
    → IsPlaced net position → IsPlaced net (position_after (world_of net setup) position command)
placed_after net setup position Enter home placed = home
placed_after net setup position Leave home placed = tt
placed_after net setup (At node came) (Depart port) home placed = elim (lt_tells port (degree_of net node)) [
  | inl h ↦ rw h.0 (placed, h.1)
  | inr h ↦ rw h.0 placed
]
placed_after net setup (At node came) (Accuse port) home placed = elim (lt_tells port (degree_of net node)) [
  | inl h ↦ rw h.0 tt
  | inr h ↦ rw h.0 placed
]
placed_after net setup (At node came) Look home placed = placed
placed_after net setup (At node came) (Write expect put) home placed = placed
placed_after net setup (At node came) Bad home placed = placed
placed_after net setup Before (Depart port) home placed = placed
placed_after net setup Before (Accuse port) home placed = placed
placed_after net setup Before Look home placed = placed
placed_after net setup Before (Write expect put) home placed = placed
placed_after net setup Before Bad home placed = placed
placed_after net setup (Bound node p) (Depart port) home placed = placed
placed_after net setup (Bound node p) (Accuse port) home placed = placed
placed_after net setup (Bound node p) Look home placed = placed
placed_after net setup (Bound node p) (Write expect put) home placed = placed
placed_after net setup (Bound node p) Bad home placed = placed
placed_after net setup After (Depart port) home placed = placed
placed_after net setup After (Accuse port) home placed = placed
placed_after net setup After Look home placed = placed
placed_after net setup After (Write expect put) home placed = placed
placed_after net setup After Bad home placed = placed

-- a write changes the whiteboard of one node, and no limit
pub counted_boards : (log : List Kept) (boards : List Whiteboard) (position : Position) (command : Command)
    → length (boards_told log boards position command) ≡ length boards
counted_boards log boards (At node came) (Write expect put) = length-set boards node _
counted_boards log boards (At node came) Enter = refl
counted_boards log boards (At node came) Look = refl
counted_boards log boards (At node came) (Depart port) = refl
counted_boards log boards (At node came) (Accuse port) = refl
counted_boards log boards (At node came) Leave = refl
counted_boards log boards (At node came) Bad = refl
counted_boards log boards Before command = refl
counted_boards log boards (Bound node port) command = refl
counted_boards log boards After command = refl

abbrev AreLimited : ℕ → List Whiteboard → Type 0
AreLimited limit boards = (node : ℕ) → node < length boards → (board_at boards node).limit ≡ limit

pub limited_written : (limit : ℕ) (boards : List Whiteboard) (node : ℕ) (board : Whiteboard) → node < length boards
    → board.limit ≡ limit → AreLimited limit boards → AreLimited limit (slice_set boards node board)
limited_written limit boards node board within same limited k lt =
    let bound : k < length boards = omega (arith, length-set boards node board) in
    each_set (λ k board. k < length boards → board.limit ≡ limit) boards node board untouched within (λ _. same)
    (λ k _. limited k) k bound

pub limited_boards : (net : Network) (limit : ℕ) (log : List Kept) (boards : List Whiteboard) (position : Position)
    (command : Command) → length boards ≡ nodes_of net → IsPlaced net position → AreLimited limit boards
    → AreLimited limit (boards_told log boards position command)
limited_boards net limit log boards (At node came) (Write expect put) counted placed limited =
    let within : node < length boards = omega arith in
    limited_written limit boards node (board_written log (board_at boards node) expect put) within
    (limited node within) limited
limited_boards net limit log boards (At node came) Enter counted placed limited = limited
limited_boards net limit log boards (At node came) Look counted placed limited = limited
limited_boards net limit log boards (At node came) (Depart port) counted placed limited = limited
limited_boards net limit log boards (At node came) (Accuse port) counted placed limited = limited
limited_boards net limit log boards (At node came) Leave counted placed limited = limited
limited_boards net limit log boards (At node came) Bad counted placed limited = limited
limited_boards net limit log boards Before command counted placed limited = limited
limited_boards net limit log boards (Bound node port) command counted placed limited = limited
limited_boards net limit log boards After command counted placed limited = limited

-- a command that is heard keeps the table sound
pub sound_heard : (table : Table) (log : List Kept) (agent : ℕ) (command : Command) → IsSound table
    → agent < length table.agents → IsSound (table_heard table log agent command)
sound_heard table log agent command sound within =
    let position = (agent_at table.agents agent).position in
    record {
      within = sound.within;
      ordered = sound.ordered;
      agents = length-set table.agents agent _ ∙ sound.agents;
      boards = counted_boards log table.boards position command ∙ sound.boards;
      limits = limited_boards table.net table.setup.board log table.boards position command sound.boards
          (sound.places agent) sound.limits;
      places = each_set (λ k course. IsPlaced table.net course.position) table.agents agent _ _ within
          (placed_after table.net table.setup position command sound.within.home (sound.places agent))
          (λ k _. sound.places k);
    }

-- The same result for the lists of the table after the command.
pub sound_told : (table : Table) (log : List Kept) (agent : ℕ) (command : Command) (agents : List AgentState)
    (boards : List Whiteboard) → IsSound table → agent < length table.agents
    → agents ≡ (table_heard table log agent command).agents → boards ≡ (table_heard table log agent command).boards
    → IsSound (record { net = table.net; setup = table.setup; agents = agents; boards = boards; closed = table.closed })
sound_told table log agent command agents boards sound within same_agents same_boards =
    let is_sound : Table → Type 0 = λ table. IsSound table in
    subst (λ (agents : List AgentState). is_sound
    (record { net = table.net; setup = table.setup; agents = agents; boards = boards; closed = table.closed }))
    (sym same_agents)
    (subst (λ (boards : List Whiteboard). is_sound
    (record {
      net = table.net;
      setup = table.setup;
      agents = (table_heard table log agent command).agents;
      boards = boards;
      closed = table.closed;
    })) (sym same_boards)
    (sound_heard table log agent command sound within))

-- the same, as the code goes about it: the agent is read, the whiteboards are lent as a slice and come back
pub sound_played : (table : Table) (log : List Kept) (agent : ℕ) (command : Command) (course told : AgentState)
    (position : Position) (lent boards : List Whiteboard) (len : ℕ) → IsSound table → agent < length table.agents →
    course ≡ slice_index_or table.agents agent course → position ≡ course.position
    → told ≡ agent_told (world_in table) course command →
    lent ≡ table.boards → len ≡ length table.boards → boards ≡ boards_told log lent position command →
    IsSound (record {
      net = table.net;
      setup = table.setup;
      agents = slice_set table.agents agent told;
      boards = take
          len (boards ++ drop (length boards) table.boards);
      closed = table.closed;
    })
sound_played table log agent command course told position lent boards len sound within found at is_told is_lent
    counted written =
    let read : course ≡ agent_at table.agents agent = get_or_read table.agents agent course within found newcomer in
    let same_agents : slice_set table.agents agent told ≡ (table_heard table log agent command).agents = cc in
    let same_boards : boards ≡ boards_told log table.boards (agent_at table.agents agent).position command = cc in
    let same_length : length boards ≡ len = ap length same_boards
    ∙ counted_boards log table.boards (agent_at table.agents agent).position command ∙ sym counted in
    let whole : take len (boards ++ drop (length boards) table.boards) ≡ boards =
    rw (← same_length) (take-append_seam boards (drop (length boards) table.boards)) in
    sound_told table log agent command _ _ sound within same_agents (whole ∙ same_boards)
