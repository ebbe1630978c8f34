-- An agent of a match.
use Rattle.std.specs.Prelude.{ℕ, Bool, false, true, Option, Some, None}
use Rattle.bhs_model.specs.Runs.{Position, Before, At, Bound, After}
use Rattle.bhs_state.specs.declared.standings.Standing.{Standing}
use Rattle.bhs_state.specs.declared.standings.Standing.TheVariants.{Outside, Present, Away, Ended}

-- An agent's state: position, used commands of the quota, and whether it is lost.
pub record AgentState : Type 0 where
  pub position : Position
  pub used : ℕ
  pub lost : Bool

-- an agent at first
abbrev pub newcomer : AgentState
newcomer = record { position = Before; used = 0; lost = false }

-- the position that a standing tells
abbrev pub position_of : Standing → Position
position_of Outside = Before
position_of (Present node came) = At node came
position_of (Away node port) = Bound node port
position_of Ended = After

-- the node at which an agent stands
abbrev pub node_of : Position → Option ℕ
node_of (At node came) = Some node
node_of position = None

-- the label of the link by which an agent arrived
abbrev pub label_of : Position → Option ℕ
label_of (At node came) = came
label_of position = None

-- the departure node and port of the link that an agent travels on
abbrev pub link_of : Position → Option (ℕ × ℕ)
link_of (Bound node port) = Some (node, port)
link_of position = None

-- whether an agent has entered and not ended
abbrev pub is_inside : Position → Bool
is_inside (At node came) = true
is_inside (Bound node port) = true
is_inside position = false
