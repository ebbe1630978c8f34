-- The standard ring of n nodes: node k is joined by its port 0 to the next node, and by its port 1 to the one before.
use Rattle.std.specs.Prelude.{ℕ, ◌+◌, ◌-◌, ◌*◌, ◌==◌, ◌≡◌, ◌<◌, ◌≤◌, List, [], ◌∷◌, map, if◌then◌else◌}
use Rattle.std.specs.List.{range_with_len}
use Rattle.bhs_net.specs.declared.faults.TheConstants.{MAX_NODES}
use Rattle.bhs_net.specs.Links.{End}
use Rattle.bhs_net.specs.Network as networks
use Rattle.bhs_model.specs.declared.setups.Setup.{Setup}
use Rattle.bhs_model.specs.Setups.{world_of}
use Rattle.bhs_model.specs.Examples.{triangle}
use Rattle.bhs_referee.specs.declared.verdicts.Outcome.TheVariants.{Solved}
use Rattle.bhs_schedules.specs.Schedules.{under, verdict}
use Rattle.bhs_protocols.specs.Invariants.{IsSolved}
use Rattle.bhs_protocols.specs.AllRings.{IsSetOn}
use Rattle.bhs_protocols.specs.Rings.{Ways, IsSearch}
use Rattle.bhs_protocols.specs.Shuttle.{moves_on, commands_on}
use Rattle.bhs_protocols.specs.Laws.{shuttle_trial, shuttle_bounds}

abbrev pub next_node : (n node : ℕ) → ℕ
next_node n node = if node + 1 == n then 0 else node + 1

abbrev pub node_before : (n node : ℕ) → ℕ
node_before n node = if node == 0 then n - 1 else node - 1

abbrev pub standard_row : (n node : ℕ) → List End
standard_row n node = (next_node n node, 1) ∷ (node_before n node, 0) ∷ []

-- the rows of the network, in the form in which a file is read
abbrev pub standard_ring : (n : ℕ) → networks.Network
standard_ring n = map (standard_row n) (range_with_len 0 n)

-- node k is k steps from node 0 on one side, and n - k on the other
abbrev pub standard_ways : (n : ℕ) → Ways
standard_ways n = record {
  node = λ side steps. if side == 0 then steps else (if steps == 0 then 0 else n - steps);
  ahead = λ side steps. side;
}

-- two agents at node 0 of the standard ring of n nodes, with the black hole at this node
pub record IsSetUp (n hole : ℕ) (setup : Setup) : Type 0 where
  pub three : 3 ≤ n
  pub not_home : 0 < hole
  pub within : hole < n
  pub home : setup.home ≡ 0
  pub holes : setup.holes ≡ hole ∷ []
  pub dark : setup.dark ≡ []
  pub agents : setup.agents ≡ 2

abbrev pub StandardRings : Type 0
StandardRings = (n hole : ℕ) (setup : Setup) → IsSetUp n hole setup
    → IsSearch (world_of (standard_ring n) setup) n hole (n - hole) (standard_ways n)

-- The standard ring of n nodes is a network of a file, if a file can name so many.
abbrev pub StandardRingsAreNetworks : Type 0
StandardRingsAreNetworks = (n : ℕ) → 3 ≤ n → n ≤ MAX_NODES → networks.IsNetwork (standard_ring n)

-- so the theorems on the rings of files speak of it
abbrev pub StandardRingsAreSet : Type 0
StandardRingsAreSet = (n hole : ℕ) (setup : Setup) → n ≤ MAX_NODES → IsSetUp n hole setup
    → IsSetOn (standard_ring n) setup hole

-- so the shuttle solves each standard ring
abbrev pub ShuttleSolvesStandardRings : Type 0
ShuttleSolvesStandardRings = (n hole wakeups : ℕ) (setup : Setup) → IsSetUp n hole setup → 4 ≤ setup.board
    → commands_on n hole ≤ setup.quota → commands_on n (n - hole) ≤ setup.quota
    → IsSolved (shuttle_trial (world_of (standard_ring n) setup) wakeups n) (shuttle_bounds n hole (n - hole))

-- in fewer moves than the squares of the two distances of the black hole make together
abbrev pub MovesAreSquares : Type 0
MovesAreSquares = (distance : ℕ) → 0 < distance → moves_on distance ≡ distance * distance

-- Worked example: on the triangle with the black hole at node 2, agent 0 walks to node 1, returns, writes that it is
-- safe, walks there again and accuses the link ahead: 3 moves. Agent 1 departed earlier and is lost.
abbrev pub TheTriangleIsSolved : Type 0
TheTriangleIsSolved =
    (verdict (shuttle_trial triangle 0 3) (under (shuttle_trial triangle 0 3)
    (0 ∷ 0 ∷ 0 ∷ 0 ∷ 0 ∷ 0 ∷ 0 ∷ 0 ∷ 0 ∷ []))
    ≡ record { outcome = Solved; moves = 3; lost = 0 })
    × (verdict (shuttle_trial triangle 0 3) (under (shuttle_trial triangle 0 3)
    (1 ∷ 0 ∷ 1 ∷ 0 ∷ 0 ∷ 0 ∷ 0 ∷ 0 ∷ 0 ∷ 0 ∷ 0 ∷ 1 ∷ []))
    ≡ record { outcome = Solved; moves = 4; lost = 1 })
