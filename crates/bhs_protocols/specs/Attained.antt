-- The searches can cost as much as their bounds say: under some schedule one agent is lost, and then the other makes
-- all the moves that are left.
use Rattle.std.specs.Prelude.{ℕ, zero, suc, ◌+◌, ◌-◌, ◌*◌, ◌/◌, ◌≡◌, ◌≢◌, ◌<◌, ◌≤◌, List, [], ◌∷◌, map}
use Rattle.std.specs.List.{range_with_len}
use Rattle.bhs_net.specs.Network.{Network, nodes_of}
use Rattle.bhs_model.specs.declared.setups.Setup.{Setup}
use Rattle.bhs_model.specs.Setups.{network_of, world_of}
use Rattle.bhs_model.specs.Worlds.{World}
use Rattle.bhs_schedules.specs.Schedules.{Trial, under, IsAtRest, verdict}
use Rattle.bhs_protocols.specs.Rings.{Ways, IsSearch}
use Rattle.bhs_protocols.specs.AllRings.{IsSetOn}
use Rattle.bhs_protocols.specs.StandardRings.{standard_ring}
use Rattle.bhs_protocols.specs.Shuttle.{moves_on, commands_on}
use Rattle.bhs_protocols.specs.Laws.{shuttle_trial}
use Rattle.bhs_protocols.specs.Halving.{doubled, rounds, most_moves, most_commands}
use Rattle.bhs_protocols.specs.Halves.{halves_trial}

-- there is a schedule after which nothing more can happen, and exactly this number of moves is made
pub record IsAttained (trial : Trial) (most : ℕ) : Type 0 where
  pub schedule : List ℕ
  pub rest : IsAtRest trial (under trial schedule)
  pub moves : (verdict trial (under trial schedule)).moves ≡ most

-- on a network of a file, from this home base: with some node as the only black hole the team makes all these moves
-- under some schedule
pub record IsAttainedOn (net : Network) (setup : Setup) (trial_in : World → Trial) (most : ℕ) : Type 0 where
  pub hole : ℕ
  pub within : hole < nodes_of net
  pub not_home : hole ≢ setup.home
  pub attained : IsAttained (trial_in (world_of net (record setup { holes = hole ∷ [] }))) most

-- ---- the shuttle

-- On each ring, however its ports are numbered, and wherever the black hole is: with it at these distances from the
-- home base some schedule makes all the moves that there may be.
abbrev pub ShuttleAttains : Type 0
ShuttleAttains = (world : World) (n one other wakeups : ℕ) (ways : Ways) → IsSearch world n one other ways
    → 4 ≤ world.board → commands_on n one ≤ world.quota → commands_on n other ≤ world.quota
    → IsAttained (shuttle_trial world wakeups n) (moves_on one + moves_on other - 1)

-- with a black hole next to the home base these are (n - 1)^2
abbrev pub ShuttleAttainsSquares : Type 0
ShuttleAttainsSquares = (world : World) (n wakeups : ℕ) (ways : Ways) → IsSearch world n 1 (n - 1) ways
    → 4 ≤ world.board → (n - 2) * (n - 1) + 2 * n ≤ world.quota
    → IsAttained (shuttle_trial world wakeups n) ((n - 1) * (n - 1))

-- The same holds on each ring of a file, from each home base.
abbrev pub ShuttleAttainsOnAllRings : Type 0
ShuttleAttainsOnAllRings = (net : Network) (setup : Setup) (hole wakeups : ℕ) → IsSetOn net setup hole → 4 ≤ setup.board
    → (nodes_of net - 2) * (nodes_of net - 1) + 2 * nodes_of net ≤ setup.quota
    → IsAttainedOn net setup (λ world. shuttle_trial world wakeups (nodes_of net))
    ((nodes_of net - 1) * (nodes_of net - 1))

-- ---- the search by halves

-- How far the black hole is in a part of this many nodes, which is divided this number of times until one is left: so
-- far that the nodes from it to the end of the part are one more than a power of two, and as many as there can be. A
-- part of one node is the black hole.
abbrev pub worst_in : (part rounds : ℕ) → ℕ
worst_in part zero = 1
worst_in part (suc k) = part - doubled k

-- how many steps it is from the home base on side 0, where agent 0's part has n / 2 nodes
abbrev pub worst_distance : (n : ℕ) → ℕ
worst_distance n = worst_in (n / 2) (rounds (n / 2))

-- The worst black hole is a node of the ring other than the home base.
abbrev pub WorstIsWithin : Type 0
WorstIsWithin = (n : ℕ) → 3 ≤ n → (0 < worst_distance n) × (worst_distance n < n)

-- Whatever the ring, however its ports are numbered: with the black hole at that distance some schedule makes all the
-- moves that there may be.
abbrev pub HalvesAttain : Type 0
HalvesAttain = (world : World) (n other wakeups : ℕ) (ways : Ways) → IsSearch world n (worst_distance n) other ways
    → 4 ≤ world.board → most_commands n ≤ world.quota → IsAttained (halves_trial world wakeups n) (most_moves n)

-- so it is on each ring of a file, from each home base, with some black hole
abbrev pub HalvesAttainOnAllRings : Type 0
HalvesAttainOnAllRings = (net : Network) (setup : Setup) (hole wakeups : ℕ) → IsSetOn net setup hole → 4 ≤ setup.board
    → most_commands (nodes_of net) ≤ setup.quota
    → IsAttainedOn net setup (λ world. halves_trial world wakeups (nodes_of net)) (most_moves (nodes_of net))

-- these distances, on the rings of 3 to 18 nodes
abbrev pub WorstDistances : Type 0
WorstDistances = map (λ k. worst_distance (k + 3)) (range_with_len 0 16)
    ≡ 1 ∷ 1 ∷ 1 ∷ 1 ∷ 1 ∷ 2 ∷ 2 ∷ 1 ∷ 1 ∷ 2 ∷ 2 ∷ 3 ∷ 3 ∷ 4 ∷ 4 ∷ 1 ∷ []

-- two agents at node 0 of the standard ring of n nodes, with the black hole at that distance, and with the least quota
-- and whiteboards for which the theorem on rings holds
abbrev pub worst_world : (n : ℕ) → World
worst_world n = record {
  net = network_of (standard_ring n);
  home = 0;
  holes = worst_distance n ∷ [];
  dark = [];
  agents = 2;
  quota = most_commands n;
  board = 4;
}

-- so the bound is attained for each size
abbrev pub HalvesAttainOnStandardRings : Type 0
HalvesAttainOnStandardRings = (n wakeups : ℕ) → 3 ≤ n
    → IsAttained (halves_trial (worst_world n) wakeups n) (most_moves n)
