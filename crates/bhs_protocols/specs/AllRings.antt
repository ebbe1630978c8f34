-- Every ring that a file can name: a network whose nodes have two links each.
use Rattle.std.specs.Prelude.{ℕ, zero, suc, ◌+◌, ◌-◌, ◌*◌, ◌≡◌, ◌≢◌, ◌<◌, ◌≤◌, [], ◌∷◌}
use Rattle.bhs_net.specs.Links.{End}
use Rattle.bhs_net.specs.Network.{Network, IsNetwork, nodes_of, degree_of, far_of}
use Rattle.bhs_model.specs.declared.setups.Setup.{Setup}
use Rattle.bhs_model.specs.Setups.{world_of}
use Rattle.bhs_protocols.specs.Invariants.{CostBounds, IsSolved}
use Rattle.bhs_protocols.specs.Rings.{Ways, IsSearch}
use Rattle.bhs_protocols.specs.Laws.{shuttle_trial}

-- two agents at a node of a ring, with one black hole, which is another node, and no dark link
pub record IsSetOn (net : Network) (setup : Setup) (hole : ℕ) : Type 0 where
  pub network : IsNetwork net
  pub two : (node : ℕ) → node < nodes_of net → degree_of net node ≡ 2
  pub home : setup.home < nodes_of net
  pub within : hole < nodes_of net
  pub not_home : hole ≢ setup.home
  pub holes : setup.holes ≡ hole ∷ []
  pub dark : setup.dark ≡ []
  pub agents : setup.agents ≡ 2

-- the far end of a port, followed by the opposite port of that node
abbrev pub onward : Network → End → End
onward net end = ((far_of net end.0 end.1).0, 1 - (far_of net end.0 end.1).1)

-- the same, this number of times
abbrev pub gone_on : Network → End → (steps : ℕ) → End
gone_on net end zero = end
gone_on net end (suc steps) = onward net (gone_on net end steps)

-- where one comes from the home base by its port 0 and by its port 1
abbrev pub ways_of : Network → (home : ℕ) → Ways
ways_of net home = record {
  node = λ side steps. (gone_on net (home, side) steps).0;
  ahead = λ side steps. (gone_on net (home, side) steps).1;
}

-- where the black hole is: at these distances by the two ways
pub record IsAway (net : Network) (setup : Setup) (hole : ℕ) : Type 0 where
  pub one : ℕ
  pub other : ℕ
  pub search : IsSearch (world_of net setup) (nodes_of net) one other (ways_of net setup.home)

abbrev pub RingsAreRings : Type 0
RingsAreRings = (net : Network) (setup : Setup) (hole : ℕ) → IsSetOn net setup hole → IsAway net setup hole

-- what the shuttle costs on a ring of n nodes, wherever the black hole is
abbrev pub ring_bounds : (n : ℕ) → CostBounds
ring_bounds n = record {
  moves = (n - 1) * (n - 1);
  lost = 1;
  commands = λ agent. (n - 2) * (n - 1) + 2 * n;
  turns = 2 * ((n - 2) * (n - 1) + n) + 2 * n + 2;
}

-- The shuttle solves each ring of a file, however its ports are numbered, from each home base and with each black hole.
abbrev pub ShuttleSolvesAllRings : Type 0
ShuttleSolvesAllRings = (net : Network) (setup : Setup) (hole wakeups : ℕ) → IsSetOn net setup hole → 4 ≤ setup.board
    → (nodes_of net - 2) * (nodes_of net - 1) + 2 * nodes_of net ≤ setup.quota
    → IsSolved (shuttle_trial (world_of net setup) wakeups (nodes_of net)) (ring_bounds (nodes_of net))
