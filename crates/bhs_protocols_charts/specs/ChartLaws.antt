-- What the search by a chart solves, and at what cost.
use Rattle.std.specs.Prelude.{ℕ, ◌+◌, ◌-◌, ◌*◌, ◌≡◌, ◌≢◌, ◌<◌, ◌≤◌}
use Rattle.bhs_net.specs.Network.{Network, IsNetwork, nodes_of, degree_of}
use Rattle.bhs_model.specs.Setups.{network_of}
use Rattle.bhs_schedules.specs.Schedules.{Trial}
use Rattle.bhs_protocols.specs.Invariants.{CostBounds, IsSolved}
use Rattle.bhs_protocols.specs.Programs.{strategies_by}
use Rattle.bhs_protocols.specs.Sizes.{Limits, played_on}
use Rattle.bhs_protocols_unmapped.specs.Degrees.{ports_beside}
use Rattle.bhs_protocols_charts.specs.Charting.{charters}

-- a match of agents that draw a chart; `tells` says how many links the black hole has, by how many ports the other
-- nodes have together
abbrev pub chart_trial : Network → Limits → (tells : ℕ → ℕ) → (home hole : ℕ) → Trial
chart_trial net terms tells home hole =
    played_on (network_of net) terms (strategies_by (charters (nodes_of net) tells)) home hole

-- ---- the costs on a network of this number of nodes; `ports` are those of all nodes but the black hole together

-- For each port a trip through it and back; then each agent goes to a link to accuse it.
abbrev pub chart_moves : (nodes ports agents : ℕ) → ℕ
chart_moves nodes ports agents = 2 * (nodes - 1) * ports + agents * (nodes - 2)

-- As many commands as moves for a trip, and one to write a name. Each port changes its state twice; whenever the home
-- base's whiteboard changes, an agent there may have to write again, and to look at it after each wake-up.
abbrev pub chart_commands : (nodes ports wakeups : ℕ) → ℕ
chart_commands nodes ports wakeups =
    (2 * nodes - 1) * ports + (wakeups + 3) * (2 * ports) + (nodes + wakeups)

-- Each command of a trip costs two turns; the other commands cost turns of all agents.
abbrev pub chart_turns : (nodes ports agents wakeups : ℕ) → ℕ
chart_turns nodes ports agents wakeups =
    2 * ((2 * nodes - 1) * ports + (wakeups + 3) * (2 * ports)) + agents * (2 * (wakeups + 3) * (2 * ports))
    + agents * (2 * (nodes + wakeups) + 2)

abbrev pub chart_bounds : Network → Limits → (hole : ℕ) → CostBounds
chart_bounds net terms hole = record {
  moves = chart_moves (nodes_of net) (ports_beside net hole) terms.agents;
  lost = degree_of net hole;
  commands = λ agent. chart_commands (nodes_of net) (ports_beside net hole) terms.wakeups;
  turns = chart_turns (nodes_of net) (ports_beside net hole) terms.agents terms.wakeups;
}

-- The quota and the whiteboards suffice for networks with this number of nodes, where all nodes but the black hole
-- have at most this number of ports together.
pub record CanChart (nodes ports : ℕ) (terms : Limits) : Type 0 where
  pub board : 6 * (nodes - 1) + ports ≤ terms.board
  pub quota : chart_commands nodes ports terms.wakeups ≤ terms.quota

-- Agents can search a network for this black hole: they are more than it has links, and can tell how many these are;
-- the quota and the whiteboards suffice.
pub record CanSearch (net : Network) (terms : Limits) (tells : ℕ → ℕ) (home hole : ℕ) : Type 0 where
  pub network : IsNetwork net
  pub start : home < nodes_of net
  pub within : hole < nodes_of net
  pub apart : hole ≢ home
  pub told : tells (ports_beside net hole) ≡ degree_of net hole
  pub agents : degree_of net hole < terms.agents
  pub enough : CanChart (nodes_of net) (ports_beside net hole) terms

-- They solve the match under every schedule, whatever the network is: they are told its number of nodes, and no more
-- than `tells`.
abbrev pub ChartersSolve : Type 0
ChartersSolve = (net : Network) (terms : Limits) (tells : ℕ → ℕ) (home hole : ℕ)
    → CanSearch net terms tells home hole
    → IsSolved (chart_trial net terms tells home hole) (chart_bounds net terms hole)
