-- One agent alone does not find a black hole.
use Rattle.std.specs.Prelude.{ℕ, ◌≢◌, ◌<◌, ◌≤◌, List, [], ◌∷◌}
use Rattle.bhs_net.specs.Network.{Network, IsNetwork, nodes_of}
use Rattle.bhs_model.specs.declared.setups.Setup.{Setup}
use Rattle.bhs_model.specs.Setups.{world_of}
use Rattle.bhs_model.specs.Worlds.{World}
use Rattle.bhs_model.specs.Examples.{none_held}
use Rattle.bhs_schedules.specs.Strategies.{Strategies}
use Rattle.bhs_schedules.specs.Schedules.{Trial, under, IsAtRest}
use Rattle.bhs_schedules.specs.Everywhere.{Fails}

-- a match of one agent, where this node is the only black hole and nothing is dark
abbrev pub alone : World → (wakeups : ℕ) → Strategies → (hole : ℕ) → Trial
alone world wakeups strategies hole = record {
  world = record world { holes = hole ∷ []; dark = []; agents = 1 };
  held = none_held;
  wakeups = wakeups;
  strategies = strategies;
}

-- a network of three nodes at least, where the links of the home base lead to other nodes
pub record HasThree (world : World) : Type 0 where
  pub three : 3 ≤ world.net.nodes
  pub home : world.home < world.net.nodes
  pub leads : (port : ℕ) → port < world.net.degree world.home → (world.net.far world.home port).0 < world.net.nodes
  pub away : (port : ℕ) → port < world.net.degree world.home → (world.net.far world.home port).0 ≢ world.home

-- a node other than the home base that can be the black hole so that the agent fails under some schedule
pub record FailsSomewhere (world : World) (wakeups : ℕ) (strategies : Strategies) : Type 0 where
  pub hole : ℕ
  pub within : hole < world.net.nodes
  pub not_home : hole ≢ world.home
  pub schedule : List ℕ
  pub fails : Fails (alone world wakeups strategies hole) schedule

-- Whatever the agent does: if it comes to rest where some node is the black hole, then there is a black hole with which
-- it comes to rest and has not solved the match.
abbrev pub OneAloneFails : Type 0
OneAloneFails = (world : World) (wakeups : ℕ) (strategies : Strategies) (hole : ℕ) (schedule : List ℕ) → HasThree world
    → hole < world.net.nodes → hole ≢ world.home
    → IsAtRest (alone world wakeups strategies hole) (under (alone world wakeups strategies hole) schedule)
    → FailsSomewhere world wakeups strategies

-- The same holds on each network of a file, from each home base.
abbrev pub OneAloneFailsOnNetworks : Type 0
OneAloneFailsOnNetworks =
    (net : Network) (setup : Setup) (wakeups : ℕ) (strategies : Strategies) (hole : ℕ) (schedule : List ℕ)
    → IsNetwork net → setup.home < nodes_of net → hole < nodes_of net → hole ≢ setup.home
    → IsAtRest (alone (world_of net setup) wakeups strategies hole)
    (under (alone (world_of net setup) wakeups strategies hole) schedule)
    → FailsSomewhere (world_of net setup) wakeups strategies
