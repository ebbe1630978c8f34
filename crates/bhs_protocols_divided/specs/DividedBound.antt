-- Order n log n moves are necessary and sufficient for two agents with a map: the upper bound for each network of n
-- nodes is at most seven times the lower bound for the ring of n nodes.
use Rattle.std.specs.Prelude.{ℕ, ◌*◌, ◌≡◌, ◌<◌, ◌≤◌}
use Rattle.bhs_net.specs.Network.{Network, IsNetwork, nodes_of}
use Rattle.bhs_model.specs.declared.setups.Setup.{Setup}
use Rattle.bhs_model.specs.Setups.{world_of}
use Rattle.bhs_model.specs.Draws.{Held}
use Rattle.bhs_model.specs.Examples.{none_held}
use Rattle.bhs_schedules.specs.Strategies.{Strategies}
use Rattle.bhs_protocols.specs.Programs.{strategies_by}
use Rattle.bhs_protocols.specs.Quotas.{largest_quota}
use Rattle.bhs_protocols.specs.StandardRings.{standard_ring, IsSetUp, StandardRingsAreNetworks}
use Rattle.bhs_protocols_bounds.specs.Bound.{least_moves, SolvesWithin}
use Rattle.bhs_protocols_divided.specs.Plans.{Plan}
use Rattle.bhs_protocols_divided.specs.Dividing.{dividers}
use Rattle.bhs_protocols_divided.specs.DividingLaws.{most_moves, most_commands}

-- A plan by which two agents solve every match on this network from this home base. The plan is fixed before the black
-- hole, the whiteboards and the quota are chosen.
pub record HasTeam (net : Network) (home : ℕ) : Type 0 where
  pub plan : Plan
  pub solves : (setup : Setup) (wakeups : ℕ) → setup.home ≡ home → setup.agents ≡ 2 → 5 ≤ setup.board
      → most_commands (nodes_of net) ≤ setup.quota
      → SolvesWithin (world_of net setup) none_held wakeups (strategies_by (dividers plan)) (most_moves (nodes_of net))

-- `networks`: two agents with a plan solve each network of a file. `members` and `rings`: the ring of n nodes is such a
-- network, and every team of two, even one made for that ring, needs at least `least_moves n` moves there. `between`:
-- the upper bound is at most seven times the lower one. `quotas`: a file can grant the commands exactly up to 1,025
-- nodes.
pub record IsOrderNLogN : Type 0 where
  pub networks : (net : Network) (home : ℕ) → IsNetwork net → home < nodes_of net → HasTeam net home
  pub members : StandardRingsAreNetworks
  pub rings : (n hole wakeups moves : ℕ) (setup : Setup) (held : Held) (strategies : Strategies) → IsSetUp n hole setup
      → SolvesWithin (world_of (standard_ring n) setup) held wakeups strategies moves → least_moves n ≤ moves
  pub quotas : (n : ℕ)
      → (n ≤ 1025 → most_commands n ≤ largest_quota) × (1026 ≤ n → largest_quota < most_commands n)
  pub between : (n : ℕ) → 3 ≤ n → most_moves n ≤ 7 * least_moves n
