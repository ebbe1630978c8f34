-- How many moves two agents have to make on a ring: whatever the team, with some black hole some schedule makes it move
-- this often.
use Rattle.std.specs.Prelude.{ℕ, zero, suc, ◌+◌, ◌-◌, ◌*◌, ◌≡◌, ◌≢◌, ◌<◌, ◌≤◌, List}
use Rattle.bhs_net.specs.Network.{Network, nodes_of}
use Rattle.bhs_model.specs.declared.setups.Setup.{Setup}
use Rattle.bhs_model.specs.Setups.{world_of}
use Rattle.bhs_model.specs.Worlds.{World}
use Rattle.bhs_model.specs.Draws.{Held}
use Rattle.bhs_model.specs.Examples.{none_held}
use Rattle.bhs_schedules.specs.Strategies.{Strategies}
use Rattle.bhs_schedules.specs.Schedules.{under, IsAtRest, verdict}
use Rattle.bhs_schedules.specs.Spending.{moves_in}
use Rattle.bhs_schedules.specs.Everywhere.{EveryScheduleSolves}
use Rattle.bhs_schedules.specs.Endings.{EveryScheduleCanRest}
use Rattle.bhs_protocols.specs.LastWord.{searched, SolvesEverywhere, Finds}
use Rattle.bhs_protocols.specs.Rings.{Ways, IsRing}
use Rattle.bhs_protocols.specs.AllRings.{IsSetOn}
use Rattle.bhs_protocols.specs.Programs.{strategies_by}
use Rattle.bhs_protocols.specs.Halving.{rounds, most_commands}
use Rattle.bhs_protocols.specs.Halves.{halves}

-- the moves that every team must make on a ring of n nodes: R (n - 2) + 1, with R the least number such that 2^R is
-- n - 1 or more
abbrev pub least_moves : (n : ℕ) → ℕ
least_moves n = rounds (n - 1) * (n - 2) + 1

-- The Fibonacci numbers 1, 2, 3, 5, 8, ..: each number is the sum of its two predecessors.
abbrev pub fibonacci : (k : ℕ) → ℕ
fibonacci zero = 1
fibonacci (suc zero) = 2
fibonacci (suc (suc k)) = fibonacci (suc k) + fibonacci k

-- A greater lower bound, for each k such that the k-th of these numbers, f_k, is at most n - 2: k n + 3 (n - 2 - f_k) +
-- 4 - f_(k+1). With the best k it is about 1.44 n log2 n for large n.
abbrev pub more_moves : (n k : ℕ) → ℕ
more_moves n k = k * n + 3 * (n - 2 - fibonacci k) + 4 - fibonacci (suc k)

-- with some node other than the home base as the only black hole, some schedule makes at least so many moves
pub record MustMove (world : World) (held : Held) (wakeups : ℕ) (strategies : Strategies) (least : ℕ) : Type 0 where
  pub hole : ℕ
  pub within : hole < world.net.nodes
  pub not_home : hole ≢ world.home
  pub schedule : List ℕ
  pub moves : least ≤ moves_in (searched world held wakeups strategies hole)
      (under (searched world held wakeups strategies hole) schedule)

-- the same, of a schedule after which nothing more can happen: the verdict counts the moves
pub record MustMoveAtRest (world : World) (held : Held) (wakeups : ℕ) (strategies : Strategies) (least : ℕ) : Type 0
  where
    pub hole : ℕ
    pub within : hole < world.net.nodes
    pub not_home : hole ≢ world.home
    pub schedule : List ℕ
    pub rest : IsAtRest (searched world held wakeups strategies hole)
        (under (searched world held wakeups strategies hole) schedule)
    pub moves : least ≤ (verdict (searched world held wakeups strategies hole)
        (under (searched world held wakeups strategies hole) schedule)).moves

-- Take any ring, home base, quota, whiteboards and held links, and any two agents, whatever they know and however they
-- differ, that find the black hole wherever it is.
abbrev pub TwoMustMove : Type 0
TwoMustMove = (world : World) (n wakeups : ℕ) (ways : Ways) (held : Held) (strategies : Strategies)
    → IsRing world n ways → world.agents ≡ 2 → Finds world held wakeups strategies
    → MustMove world held wakeups strategies (least_moves n)

-- the same with the greater bound, for each k
abbrev pub TwoMustMoveMore : Type 0
TwoMustMoveMore = (world : World) (n k wakeups : ℕ) (ways : Ways) (held : Held) (strategies : Strategies)
    → IsRing world n ways → world.agents ≡ 2 → fibonacci k + 2 ≤ n → Finds world held wakeups strategies
    → MustMove world held wakeups strategies (more_moves n k)

-- The same on each ring of a file, from each home base. The black hole that the setup names does not matter.
abbrev pub TwoMustMoveOnAllRings : Type 0
TwoMustMoveOnAllRings = (net : Network) (setup : Setup) (hole wakeups : ℕ) (held : Held) (strategies : Strategies)
    → IsSetOn net setup hole → Finds (world_of net setup) held wakeups strategies
    → MustMove (world_of net setup) held wakeups strategies (least_moves (nodes_of net))

-- a team that solves the match also makes so many moves under a schedule that comes to rest
abbrev pub TwoMustMoveAtRest : Type 0
TwoMustMoveAtRest = (world : World) (n wakeups : ℕ) (ways : Ways) (held : Held) (strategies : Strategies)
    → IsRing world n ways → world.agents ≡ 2 → SolvesEverywhere world held wakeups strategies
    → MustMoveAtRest world held wakeups strategies (least_moves n)

-- ---- beside the search by halves

-- whichever node other than the home base is the only black hole, every schedule solves the match in at most so many
-- moves, and leads on to where nothing more can happen
abbrev pub SolvesWithin : World → Held → (wakeups : ℕ) → Strategies → (moves : ℕ) → Type 0
SolvesWithin world held wakeups strategies moves = (hole : ℕ) → hole < world.net.nodes → hole ≢ world.home
    → (lost : ℕ) × EveryScheduleSolves (searched world held wakeups strategies hole) moves lost
    × EveryScheduleCanRest (searched world held wakeups strategies hole)

-- no two agents solve a ring within fewer moves
abbrev pub EveryTeamMoves : Type 0
EveryTeamMoves = (world : World) (n wakeups moves : ℕ) (ways : Ways) (held : Held) (strategies : Strategies)
    → IsRing world n ways → world.agents ≡ 2 → SolvesWithin world held wakeups strategies moves → least_moves n ≤ moves

-- nor within fewer moves than the greater bound, for each k
abbrev pub EveryTeamMovesMore : Type 0
EveryTeamMovesMore = (world : World) (n k wakeups moves : ℕ) (ways : Ways) (held : Held) (strategies : Strategies)
    → IsRing world n ways → world.agents ≡ 2 → fibonacci k + 2 ≤ n
    → SolvesWithin world held wakeups strategies moves → more_moves n k ≤ moves

-- the search by halves solves each ring within twice as many
abbrev pub HalvesSolveWithinTwice : Type 0
HalvesSolveWithinTwice = (world : World) (n wakeups : ℕ) (ways : Ways) → IsRing world n ways → world.agents ≡ 2
    → 4 ≤ world.board → most_commands n ≤ world.quota
    → SolvesWithin world none_held wakeups (strategies_by (halves n)) (2 * least_moves n)
