-- Where agents are, which nodes are new, and runs of one agent alone.
use Rattle.std.proofs.Common.{ℕ, zero, suc, ◌+◌, ◌<◌, ◌≡◌, ◌⊎◌, true, false, List, [], ◌∷◌, refl, ap, ◌∙◌, arith, subst}
use Rattle.std.specs.Prelude.{◌≢◌}
use Rattle.bhs_model.specs.Worlds.{World}
use Rattle.bhs_model.specs.Draws.{Held}
use Rattle.bhs_model.specs.Runs.{Bound}
use Rattle.bhs_schedules.specs.Strategies.{Strategies}
use Rattle.bhs_protocols.specs.Configurations.{Configuration, turn_in, turns_in}
use Rattle.bhs_protocols_bounds.proofs.Holeless.{free, IsReachable, goes_on}

-- a node that could be the black hole: nobody was there
pub record IsNew (world : World) (configuration : Configuration) (node : ℕ) : Type 0 where
  pub below : node < world.net.nodes
  pub not_home : node ≢ world.home
  pub never : configuration.reached node ≡ false

-- one that cannot
abbrev pub IsSafe : World → Configuration → ℕ → Type 0
IsSafe world configuration node = (node ≡ world.home) ⊎ (configuration.reached node ≡ true)

-- an agent is on a link that leads to this node
pub record IsOnLinkTo (world : World) (configuration : Configuration) (agent node : ℕ) : Type 0 where
  pub start : ℕ
  pub port : ℕ
  pub on : configuration.position agent ≡ Bound start port
  pub to : (world.net.far start port).0 ≡ node

-- all other agents are
abbrev pub OthersWait : World → Configuration → (agent node : ℕ) → Type 0
OthersWait world configuration agent node = (k : ℕ) → k < world.agents → k ≢ agent
    → IsOnLinkTo world configuration k node

module _ (world : World) (held : Held) (wakeups : ℕ) (strategies : Strategies) where
  -- after so many turns of one agent, where no node is a black hole
  abbrev pub runs : Configuration → (agent count : ℕ) → Configuration
  runs configuration agent zero = configuration
  runs configuration agent (suc count) =
      runs (turn_in (free world held wakeups strategies) configuration agent) agent count

  abbrev pub often : (agent count : ℕ) → List ℕ
  often agent zero = []
  often agent (suc count) = agent ∷ often agent count

  pub runs_are : (configuration : Configuration) (agent count : ℕ)
      → turns_in (free world held wakeups strategies) configuration (often agent count) ≡ runs configuration agent count
  runs_are configuration agent zero = refl
  runs_are configuration agent (suc count) =
      runs_are (turn_in (free world held wakeups strategies) configuration agent) agent count

  -- the last turn of a run
  pub runs_last : (configuration : Configuration) (agent count : ℕ)
      → runs configuration agent (suc count)
      ≡ turn_in (free world held wakeups strategies) (runs configuration agent count) agent
  runs_last configuration agent zero = refl
  runs_last configuration agent (suc count) =
      runs_last (turn_in (free world held wakeups strategies) configuration agent) agent count

  pub runs_more : (configuration : Configuration) (agent one other : ℕ)
      → runs configuration agent (one + other) ≡ runs (runs configuration agent one) agent other
  runs_more configuration agent zero other =
      let sum : zero + other ≡ other = omega arith in
      ap (runs configuration agent) sum
  runs_more configuration agent (suc one) other =
      let sum : suc one + other ≡ suc (one + other) = omega arith in
      ap (runs configuration agent) sum
      ∙ runs_more (turn_in (free world held wakeups strategies) configuration agent) agent one other

  pub reachable_runs : (configuration : Configuration) (agent count : ℕ)
      → IsReachable world held wakeups strategies configuration
      → IsReachable world held wakeups strategies (runs configuration agent count)
  reachable_runs configuration agent count it =
      subst (IsReachable world held wakeups strategies) (runs_are configuration agent count)
      (goes_on world held wakeups strategies configuration (often agent count) it)
