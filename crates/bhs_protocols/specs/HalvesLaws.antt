-- The search by halves solves every ring.
use Rattle.std.specs.Prelude.{ℕ, ◌+◌, ◌-◌, ◌*◌, ◌≤◌}
use Rattle.bhs_net.specs.Network.{Network, nodes_of}
use Rattle.bhs_model.specs.declared.setups.Setup.{Setup}
use Rattle.bhs_model.specs.Setups.{world_of}
use Rattle.bhs_model.specs.Worlds.{World}
use Rattle.bhs_protocols.specs.Invariants.{CostBounds, IsSolved}
use Rattle.bhs_protocols.specs.Rings.{Ways, IsSearch}
use Rattle.bhs_protocols.specs.AllRings.{IsSetOn}
use Rattle.bhs_protocols.specs.Halving.{rounds, most_moves}
use Rattle.bhs_protocols.specs.Halves.{halves_trial}
use Rattle.bhs_protocols.specs.Halving.{most_turns, most_commands}

-- what it costs on a ring of n nodes, wherever the black hole is
abbrev pub halves_bounds : (n : ℕ) → CostBounds
halves_bounds n = record {
  moves = most_moves n;
  lost = 1;
  commands = λ agent. most_commands n;
  turns = most_turns n;
}

-- On each ring, whatever its size, however its ports are numbered, and wherever the black hole is, the search by halves
-- solves the match under every schedule.
abbrev pub HalvesSolve : Type 0
HalvesSolve = (world : World) (n one other wakeups : ℕ) (ways : Ways) → IsSearch world n one other ways
    → 4 ≤ world.board → most_commands n ≤ world.quota → IsSolved (halves_trial world wakeups n) (halves_bounds n)

-- Hence the team solves each ring of a file.
abbrev pub HalvesSolveAllRings : Type 0
HalvesSolveAllRings = (net : Network) (setup : Setup) (hole wakeups : ℕ) → IsSetOn net setup hole → 4 ≤ setup.board
    → most_commands (nodes_of net) ≤ setup.quota
    → IsSolved (halves_trial (world_of net setup) wakeups (nodes_of net)) (halves_bounds (nodes_of net))

-- With R the least number such that 2^R is n - 1 or more, these are at most 4 (n - 2) R + 2 (n - 2) + 2 R + 8 turns.
abbrev pub TurnsAreFew : Type 0
TurnsAreFew = (n : ℕ) → 3 ≤ n
    → most_turns n ≤ 4 * (n - 2) * rounds (n - 1) + 2 * (n - 2) + 2 * rounds (n - 1) + 8
