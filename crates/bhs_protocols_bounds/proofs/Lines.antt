-- Rings as lines: the nodes are numbered from one border of the explored part to the other, and one agent's run is
-- followed along the line.
use Rattle.std.proofs.Common.{ℕ, ◌+◌, ◌-◌, ◌<◌, ◌≤◌, ◌≡◌, ◌⊎◌, Option}
use Rattle.bhs_model.specs.Worlds.{World, Network}
use Rattle.bhs_model.specs.Draws.{Held}
use Rattle.bhs_model.specs.Runs.{Position, Before, At, Bound, After}
use Rattle.bhs_schedules.specs.Strategies.{Strategies}
use Rattle.bhs_protocols.specs.Configurations.{Configuration}
use Rattle.bhs_protocols_bounds.proofs.Holeless.{IsReachable}
use Rattle.bhs_protocols_bounds.proofs.Places.{IsSafe, IsOnLinkTo, runs}

-- the number of a node, and the node with a number
pub record Line : Type 0 where
  pub number : (node : ℕ) → ℕ
  pub at : (number : ℕ) → ℕ

-- two numbers next to each other, or the first and the last
pub record AreNext (n one other : ℕ) : Type 0 where
  pub either : (one ≡ other + 1) ⊎ (other ≡ one + 1) ⊎ ((one ≡ 0) × (other + 1 ≡ n)) ⊎ ((other ≡ 0) × (one + 1 ≡ n))

pub record IsLine (net : Network) (n : ℕ) (line : Line) : Type 0 where
  pub size : net.nodes ≡ n
  pub numbers : (node : ℕ) → node < n → line.number node < n
  pub nodes : (k : ℕ) → k < n → line.at k < n
  pub there : (k : ℕ) → k < n → line.number (line.at k) ≡ k
  pub back : (node : ℕ) → node < n → line.at (line.number node) ≡ node
  pub within : (node port : ℕ) → node < n → port < net.degree node → (net.far node port).0 < n
  pub next : (node port : ℕ) → node < n → port < net.degree node
      → AreNext n (line.number node) (line.number (net.far node port).0)

-- what is safe are the first nodes of the line
pub record IsFront (world : World) (n : ℕ) (configuration : Configuration) (line : Line) (front : ℕ) : Type 0 where
  pub safe : (node : ℕ) → node < n → line.number node < front → IsSafe world configuration node
  pub explored : (node : ℕ) → node < n → IsSafe world configuration node → line.number node < front

-- while an agent goes on to number `last`: where it is has a lower number, and no link that it takes leads beyond it
abbrev pub IsShort : World → Line → (last : ℕ) → Position → Type 0
IsShort world line last Before = Unit {0}
IsShort world line last (At node came) = line.number node < last
IsShort world line last (Bound node port) =
    (line.number node < last) × (line.number (world.net.far node port).0 ≤ last)
IsShort world line last After = ⊥

-- The agent is on the link between the previous number and this number.
pub record IsBeside (world : World) (configuration : Configuration) (line : Line) (agent number : ℕ) : Type 0 where
  pub start : ℕ
  pub port : ℕ
  pub on : configuration.position agent ≡ Bound start port
  pub from : line.number start + 1 ≡ number
  pub to : (world.net.far start port).0 ≡ line.at number

-- the numbers where an agent stands, or of where its link leads
abbrev pub number_of : World → Line → Position → ℕ
number_of world line Before = line.number world.home
number_of world line (At node came) = line.number node
number_of world line (Bound node port) = line.number (world.net.far node port).0
number_of world line After = 0

module _ (world : World) (held : Held) (wakeups : ℕ) (strategies : Strategies) where
  -- both borders are held: one agent is on a link to the first new node, the others are on links to the last one
  pub record IsSpread (n : ℕ) (configuration : Configuration) (line : Line) (front agent : ℕ) : Type 0 where
    pub some : 1 ≤ front
    pub two_new : front + 2 ≤ n
    pub within : agent < 2
    pub reachable : IsReachable world held wakeups strategies configuration
    pub front_is : IsFront world n configuration line front
    pub here : IsOnLinkTo world configuration agent (line.at front)
    pub there : IsOnLinkTo world configuration (1 - agent) (line.at (n - 1))

  -- in so many turns an agent explores all before number `last`, and takes the link there
  pub record Goes (n : ℕ) (configuration : Configuration) (line : Line) (agent last count : ℕ) : Type 0 where
    pub front : IsFront world n (runs world held wakeups strategies configuration agent count) line last
    pub on : IsBeside world (runs world held wakeups strategies configuration agent count) line agent last
    pub short : (i : ℕ) → i ≤ count
        → IsShort world line last ((runs world held wakeups strategies configuration agent i).position agent)

  -- The agent's run visits a node with a number below `bound`.
  pub record GoesBelow (configuration : Configuration) (line : Line) (agent count bound : ℕ) : Type 0 where
    pub turn : ℕ
    pub within : turn ≤ count
    pub node : ℕ
    pub came : Option ℕ
    pub stands : (runs world held wakeups strategies configuration agent turn).position agent ≡ At node came
    pub low : line.number node < bound
