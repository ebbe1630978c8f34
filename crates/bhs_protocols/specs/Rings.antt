-- Rings: networks in which each node has two links, and one comes back to the home base by going on.
use Rattle.std.specs.Prelude.{ℕ, ◌+◌, ◌-◌, ◌≡◌, ◌<◌, ◌≤◌, [], ◌∷◌}
use Rattle.bhs_model.specs.Worlds.{World}

-- For each side, 0 and 1: the node at a number of steps from the home base, and the port by which an agent goes on. The
-- agent arrives by the opposite port.
pub record Ways : Type 0 where
  pub node : (side steps : ℕ) → ℕ
  pub ahead : (side steps : ℕ) → ℕ

-- These are the ways round a ring of n nodes, on side 0 by port 0 of the home base, and on side 1 by its port 1.
-- Nothing is asked of how ports are numbered elsewhere.
pub record IsRing (world : World) (n : ℕ) (ways : Ways) : Type 0 where
  pub three : 3 ≤ n
  pub size : world.net.nodes ≡ n
  pub home : (side : ℕ) → ways.node side 0 ≡ world.home
  pub first : (side : ℕ) → side < 2 → ways.ahead side 0 ≡ side
  pub two : (side steps : ℕ) → side < 2 → steps < n → world.net.degree (ways.node side steps) ≡ 2
  pub port : (side steps : ℕ) → side < 2 → steps < n → ways.ahead side steps < 2
  pub out : (side steps : ℕ) → side < 2 → steps + 1 < n → world.net.far (ways.node side steps) (ways.ahead side steps)
      ≡ (ways.node side (steps + 1), 1 - ways.ahead side (steps + 1))
  pub back : (side steps : ℕ) → side < 2 → steps + 1 < n
      → world.net.far (ways.node side (steps + 1)) (1 - ways.ahead side (steps + 1))
      ≡ (ways.node side steps, ways.ahead side steps)
  pub around : (steps rest : ℕ) → steps + rest ≡ n → 0 < steps → 0 < rest → ways.node 1 steps ≡ ways.node 0 rest
  pub apart : (one other : ℕ) → one < n → other < n → ways.node 0 one ≡ ways.node 0 other → one ≡ other
  pub all : (node : ℕ) → node < n → (steps : ℕ) × (steps < n) × (ways.node 0 steps ≡ node)

-- a match of two agents on a ring with one black hole, which is `one` steps from the home base on side 0 and `other` on
-- side 1
pub record IsSearch (world : World) (n one other : ℕ) (ways : Ways) : Type 0 where
  pub ring : IsRing world n ways
  pub sum : one + other ≡ n
  pub not_home : 0 < one
  pub nor_around : 0 < other
  pub hole : world.holes ≡ ways.node 0 one ∷ []
  pub none_dark : world.dark ≡ []
  pub agents : world.agents ≡ 2
