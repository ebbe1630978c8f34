-- The ring of eight nodes: the two lower bounds are 19 and 24 moves, and the search by halves makes at most 37.
use Rattle.std.specs.Prelude.{ℕ, ◌≡◌, ◌≢◌, ◌<◌, []}
use Rattle.bhs_model.specs.Setups.{network_of}
use Rattle.bhs_model.specs.Worlds.{World}
use Rattle.bhs_model.specs.Examples.{none_held}
use Rattle.bhs_schedules.specs.Everywhere.{EveryScheduleSolves}
use Rattle.bhs_protocols.specs.LastWord.{searched, Finds}
use Rattle.bhs_protocols.specs.Rings.{IsRing}
use Rattle.bhs_protocols.specs.StandardRings.{standard_ring, standard_ways}
use Rattle.bhs_protocols.specs.Programs.{strategies_by}
use Rattle.bhs_protocols.specs.Halves.{halves}
use Rattle.bhs_protocols_bounds.specs.Bound.{least_moves, more_moves, MustMove, MustMoveAtRest}

-- two agents at node 0 of the standard ring of eight nodes
abbrev pub ring_of_eight : World
ring_of_eight = record {
  net = network_of (standard_ring 8);
  home = 0;
  holes = [];
  dark = [];
  agents = 2;
  quota = 100;
  board = 4;
}

-- The search by halves finds the black hole on this ring. So some black hole and schedule cost at least 19 moves, and
-- some at least 24. With each black hole, every schedule that comes to rest makes at most 37.
pub record HalvesOnEight : Type 0 where
  pub least : least_moves 8 ≡ 19
  pub more : more_moves 8 2 ≡ 24
  pub ring : IsRing ring_of_eight 8 (standard_ways 8)
  pub finds : (wakeups : ℕ) → Finds ring_of_eight none_held wakeups (strategies_by (halves 8))
  pub must_move : (wakeups : ℕ) → MustMove ring_of_eight none_held wakeups (strategies_by (halves 8)) 19
  pub must_move_more : (wakeups : ℕ) → MustMove ring_of_eight none_held wakeups (strategies_by (halves 8)) 24
  pub at_rest : (wakeups : ℕ) → MustMoveAtRest ring_of_eight none_held wakeups (strategies_by (halves 8)) 19
  pub most : (wakeups hole : ℕ) → hole < 8 → hole ≢ 0
      → EveryScheduleSolves (searched ring_of_eight none_held wakeups (strategies_by (halves 8)) hole) 37 1
