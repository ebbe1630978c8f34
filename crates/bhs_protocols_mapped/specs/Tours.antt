-- Networks in which a tour passes each node once and comes back to the home base. With a map, two agents search these
-- as they would the ring of the tour.
use Rattle.std.specs.Prelude.{ℕ, zero, suc, ◌+◌, ◌≡◌, ◌≢◌, ◌<◌, ◌≤◌, [], ◌∷◌}
use Rattle.bhs_model.specs.Worlds.{Network, World}
use Rattle.bhs_schedules.specs.Schedules.{Trial}
use Rattle.bhs_protocols.specs.Invariants.{IsSolved}
use Rattle.bhs_protocols.specs.Programs.{strategies_by}
use Rattle.bhs_protocols.specs.Halves.{halves}
use Rattle.bhs_protocols.specs.HalvesLaws.{halves_bounds}
use Rattle.bhs_protocols.specs.Halving.{most_moves, most_commands}
use Rattle.bhs_protocols.specs.Attained.{IsAttained, worst_distance}
use Rattle.bhs_protocols_mapped.specs.Parts.{through_part}

-- A cyclic sequence of all nodes, with each node's port to its successor and its port to its predecessor.
pub record Tour : Type 0 where
  pub node : (step : ℕ) → ℕ
  pub ahead : (node : ℕ) → ℕ
  pub behind : (node : ℕ) → ℕ

-- it passes each of the n nodes once, from the home base and back
pub record IsTour (net : Network) (home n : ℕ) (tour : Tour) : Type 0 where
  pub three : 3 ≤ n
  pub size : net.nodes ≡ n
  pub start : tour.node 0 ≡ home
  pub round : tour.node n ≡ home
  pub within : (step : ℕ) → step < n → tour.node step < n
  pub apart : (one other : ℕ) → one < n → other < n → tour.node one ≡ tour.node other → one ≡ other
  pub all : (node : ℕ) → node < n → (step : ℕ) × (step < n) × (tour.node step ≡ node)
  pub ahead : (step : ℕ) → step < n → tour.ahead (tour.node step) < net.degree (tour.node step)
  pub behind : (step : ℕ) → step < n → tour.behind (tour.node (step + 1)) < net.degree (tour.node (step + 1))
  pub on : (step : ℕ) → step < n → (net.far (tour.node step) (tour.ahead (tour.node step))).0 ≡ tour.node (step + 1)
  pub back : (step : ℕ) → step < n
      → (net.far (tour.node (step + 1)) (tour.behind (tour.node (step + 1)))).0 ≡ tour.node step

-- the ring of the tour: port 0 leads to the next node, and port 1 to the one before
abbrev pub far_on : Network → Tour → (node port : ℕ) → ℕ × ℕ
far_on net tour node zero = ((net.far node (tour.ahead node)).0, 1)
far_on net tour node (suc port) = ((net.far node (tour.behind node)).0, 0)

abbrev pub ring_of : Network → (n : ℕ) → Tour → Network
ring_of net n tour = record { nodes = n; degree = λ node. 2; far = far_on net tour }

-- translates ports of the ring into ports of the network
abbrev pub port_of : Network → Tour → (node port : ℕ) → ℕ
port_of net tour node zero = tour.ahead node
port_of net tour node (suc zero) = tour.behind node
port_of net tour node (suc (suc port)) = net.degree node + port

-- two agents that search the ring of a tour by halves
abbrev pub toured_trial : World → (wakeups n : ℕ) → Tour → Trial
toured_trial world wakeups n tour =
    through_part world (ring_of world.net n tour) (port_of world.net tour) wakeups (strategies_by (halves n))

-- one black hole, which is another node than the home base, two agents, and no dark link
pub record HasOneHole (world : World) (hole : ℕ) : Type 0 where
  pub within : hole < world.net.nodes
  pub not_home : hole ≢ world.home
  pub holes : world.holes ≡ hole ∷ []
  pub dark : world.dark ≡ []
  pub agents : world.agents ≡ 2

-- Two agents that have a map with a tour solve the match whatever the network is, and wherever the black hole is. It
-- costs what the search by halves costs on a ring.
abbrev pub HalvesSolveWithATour : Type 0
HalvesSolveWithATour = (world : World) (n hole wakeups : ℕ) (tour : Tour) → IsTour world.net world.home n tour
    → HasOneHole world hole → 4 ≤ world.board → most_commands n ≤ world.quota
    → IsSolved (toured_trial world wakeups n tour) (halves_bounds n)

-- and with the black hole at that distance from the home base which `HalvesAttain` names, some schedule makes all the
-- moves that there may be
abbrev pub HalvesAttainWithATour : Type 0
HalvesAttainWithATour = (world : World) (n wakeups : ℕ) (tour : Tour) → IsTour world.net world.home n tour
    → HasOneHole world (tour.node (worst_distance n)) → 4 ≤ world.board → most_commands n ≤ world.quota
    → IsAttained (toured_trial world wakeups n tour) (most_moves n)
