-- The cost of the protocol, and its correctness on every network.
use Rattle.std.specs.Prelude.{ℕ, ◌+◌, ◌-◌, ◌*◌, ◌≡◌, ◌≢◌, ◌<◌, ◌≤◌, [], ◌∷◌}
use Rattle.bhs_net.specs.Network.{Network, IsNetwork, nodes_of}
use Rattle.bhs_model.specs.declared.setups.Setup.{Setup}
use Rattle.bhs_model.specs.Setups.{network_of, world_of}
use Rattle.bhs_model.specs.Worlds.{World}
use Rattle.bhs_protocols.specs.Invariants.{CostBounds, IsSolved}
use Rattle.bhs_protocols.specs.Halving.{rounds}
use Rattle.bhs_protocols_mapped.specs.MapLaws.{IsSetAt}
use Rattle.bhs_protocols_divided.specs.Plans.{Plan, IsPlan}
use Rattle.bhs_protocols_divided.specs.Dividing.{divided_trial}

-- The agents cross to each node and back once. In each of the R stages one agent walks around its part and then along
-- its partner's itinerary, and the partner walks along its own: three walks of at most 2 (n - 2) moves.
abbrev pub most_moves : (n : ℕ) → ℕ
most_moves n = 6 * (n - 2) * rounds (n - 1) + 2 * (n - 1)

-- One departure for each move; for each node a mark, and for each division a write, each with at most one write that
-- fails; and an accusation.
abbrev pub most_commands : (n : ℕ) → ℕ
most_commands n = most_moves n + 2 * (n - 1) + 2 * rounds (n - 1)

-- a departure and an arrival for each move, the writes and the accusation as above, and both agents enter
abbrev pub most_turns : (n : ℕ) → ℕ
most_turns n = 2 * most_moves n + 2 * (n - 1) + 2 * rounds (n - 1) + 2

abbrev pub divided_bounds : (n : ℕ) → CostBounds
divided_bounds n = record {
  moves = most_moves n;
  lost = 1;
  commands = λ agent. most_commands n;
  turns = most_turns n;
}

-- a world with two agents, this plan, no dark link, and one black hole that is not the home base
pub record IsSearchedBy (world : World) (n hole : ℕ) (plan : Plan) : Type 0 where
  pub is : IsPlan world.net world.home n plan
  pub within : hole < n
  pub not_home : hole ≢ world.home
  pub holes : world.holes ≡ hole ∷ []
  pub dark : world.dark ≡ []
  pub agents : world.agents ≡ 2

-- Two agents that follow a plan solve the match under every schedule, on every network and with every black hole.
abbrev pub DividersSolve : Type 0
DividersSolve = (world : World) (n hole wakeups : ℕ) (plan : Plan) → IsSearchedBy world n hole plan → 5 ≤ world.board
    → most_commands n ≤ world.quota → IsSolved (divided_trial world wakeups plan) (divided_bounds n)

-- The network has a plan from this home base by which two agents solve every match, whichever other node is the black
-- hole.
pub record IsDividedFrom (net : Network) (home : ℕ) : Type 0 where
  pub plan : Plan
  pub is : IsPlan (network_of net) home (nodes_of net) plan
  pub solves : (setup : Setup) (hole wakeups : ℕ) → IsSetAt net home setup hole → 5 ≤ setup.board
      → most_commands (nodes_of net) ≤ setup.quota
      → IsSolved (divided_trial (world_of net setup) wakeups plan) (divided_bounds (nodes_of net))

-- Two agents with a map solve every network of a file within order n log n moves, from each home base and with each
-- black hole. The plan depends on the network and the home base alone.
abbrev pub TwoAgentsDivide : Type 0
TwoAgentsDivide = (net : Network) (home : ℕ) → IsNetwork net → home < nodes_of net → IsDividedFrom net home
