-- What holds of two agents that have a map.
use Rattle.std.specs.Prelude.{ℕ, ◌+◌, ◌-◌, ◌*◌, ◌≡◌, ◌≢◌, ◌<◌, ◌≤◌, [], ◌∷◌}
use Rattle.bhs_net.specs.Network.{Network, IsNetwork, nodes_of}
use Rattle.bhs_model.specs.declared.setups.Setup.{Setup}
use Rattle.bhs_model.specs.Setups.{network_of, world_of}
use Rattle.bhs_model.specs.Worlds.{World, Network as WorldNetwork}
use Rattle.bhs_model.specs.Examples.{none_held}
use Rattle.bhs_schedules.specs.Schedules.{Trial}
use Rattle.bhs_protocols.specs.Invariants.{IsSolved}
use Rattle.bhs_protocols.specs.Programs.{strategies_by}
use Rattle.bhs_protocols.specs.Shuttle.{moves_on}
use Rattle.bhs_protocols.specs.StandardRings.{standard_ring, IsSetUp}
use Rattle.bhs_protocols.specs.AllRings.{ring_bounds}
use Rattle.bhs_protocols.specs.Attained.{IsAttained}
use Rattle.bhs_protocols.specs.LastWord.{searched, SolvesEverywhere}
use Rattle.bhs_protocols.specs.Losses.{LosesOne}
use Rattle.bhs_protocols_mapped.specs.Guides.{Guide, IsGuide}
use Rattle.bhs_protocols_mapped.specs.Exploring.{explorers, moves_by, commands_by, guided_bounds}

-- a match of two agents on n nodes with a guide and one black hole, which is number `one` of side 0 and number `other`
-- of side 1
pub record IsGuided (world : World) (n one other : ℕ) (guide : Guide) : Type 0 where
  pub guides : IsGuide world.net world.home n guide
  pub sum : one + other ≡ n
  pub not_home : 0 < one
  pub nor_around : 0 < other
  pub hole : world.holes ≡ guide.node 0 one ∷ []
  pub none_dark : world.dark ≡ []
  pub agents : world.agents ≡ 2

-- two agents that explore by this guide, where no link is held
abbrev pub guided_trial : World → (wakeups n : ℕ) → Guide → Trial
guided_trial world wakeups n guide =
    record { world = world; held = none_held; wakeups = wakeups; strategies = strategies_by (explorers n guide) }

-- Whatever the network is, and wherever the black hole is, two agents that explore by a guide solve the match under
-- every schedule. They go to each node and back by its way.
abbrev pub GuidedAgentsSolve : Type 0
GuidedAgentsSolve = (world : World) (n one other wakeups : ℕ) (guide : Guide) → IsGuided world n one other guide
    → 4 ≤ world.board → commands_by guide n 0 one ≤ world.quota → commands_by guide n 1 other ≤ world.quota
    → IsSolved (guided_trial world wakeups n guide) (guided_bounds guide n one other)

-- Some schedule makes the agents spend the bound on moves exactly.
abbrev pub GuidedAgentsAttain : Type 0
GuidedAgentsAttain = (world : World) (n one other wakeups : ℕ) (guide : Guide) → IsGuided world n one other guide
    → 4 ≤ world.board → commands_by guide n 0 one ≤ world.quota → commands_by guide n 1 other ≤ world.quota
    → IsAttained (guided_trial world wakeups n guide) (moves_by guide 0 one + moves_by guide 1 other - 1)

-- These are no more moves than those of the shuttle on a ring where the black hole has its numbers as distances: a way
-- to the k-th node of a side has k steps at most.
abbrev pub GuidedMovesAreFew : Type 0
GuidedMovesAreFew = (net : WorldNetwork) (home n side k : ℕ) (guide : Guide) → IsGuide net home n guide → side < 2
    → k < n → moves_by guide side k ≤ moves_on k

-- two agents at this home base, with one black hole, which is another node, and no dark link
pub record IsSetAt (net : Network) (home : ℕ) (setup : Setup) (hole : ℕ) : Type 0 where
  pub from : setup.home ≡ home
  pub within : hole < nodes_of net
  pub not_home : hole ≢ home
  pub holes : setup.holes ≡ hole ∷ []
  pub dark : setup.dark ≡ []
  pub agents : setup.agents ≡ 2

-- There is a guide for this network, from this home base, by which two agents solve each match there, whichever other
-- node is the black hole.
pub record IsSearchedFrom (net : Network) (home : ℕ) : Type 0 where
  pub guide : Guide
  pub guides : IsGuide (network_of net) home (nodes_of net) guide
  pub solves : (setup : Setup) (hole wakeups : ℕ) → IsSetAt net home setup hole → 4 ≤ setup.board
      → (nodes_of net - 2) * (nodes_of net - 1) + 2 * nodes_of net ≤ setup.quota
      → IsSolved (guided_trial (world_of net setup) wakeups (nodes_of net) guide) (ring_bounds (nodes_of net))

-- Two agents that have a map solve each network of a file, from each home base and with each black hole. The guide is
-- chosen by the network and the home base alone.
abbrev pub TwoAgentsWithAMapSolve : Type 0
TwoAgentsWithAMapSolve = (net : Network) (home : ℕ) → IsNetwork net → home < nodes_of net → IsSearchedFrom net home

-- The standard ring of n nodes, with the black hole at one of its other nodes, is such a match.
abbrev pub StandardRingsAreSetAt : Type 0
StandardRingsAreSetAt = (n hole : ℕ) (setup : Setup) → IsSetUp n hole setup → IsSetAt (standard_ring n) 0 setup hole

-- a guide by which two agents solve the match whichever other node is the black hole: they lose one of them at most,
-- and under some schedule they do
pub record SolvesByAGuide (net : Network) (setup : Setup) (wakeups : ℕ) : Type 0 where
  pub guide : Guide
  pub guides : IsGuide (network_of net) setup.home (nodes_of net) guide
  pub solves : SolvesEverywhere (world_of net setup) none_held wakeups (strategies_by (explorers (nodes_of net) guide))
  pub few : (hole : ℕ) → hole < nodes_of net → hole ≢ setup.home →
      IsSolved (searched (world_of net setup) none_held wakeups (strategies_by (explorers (nodes_of net) guide)) hole)
      (ring_bounds (nodes_of net))
  pub loses : (hole : ℕ) → hole < nodes_of net → hole ≢ setup.home
      → LosesOne (searched (world_of net setup) none_held wakeups (strategies_by (explorers (nodes_of net) guide)) hole)

-- On each network of a file, from each home base, one loss suffices for two agents that have a map; and no team is
-- spared a loss, as `ALossIsNeeded` says.
abbrev pub OneLossIsNeededAndSuffices : Type 0
OneLossIsNeededAndSuffices = (net : Network) (setup : Setup) (wakeups : ℕ) → IsNetwork net → setup.home < nodes_of net
    → setup.agents ≡ 2 → 4 ≤ setup.board
    → (nodes_of net - 2) * (nodes_of net - 1) + 2 * nodes_of net ≤ setup.quota → SolvesByAGuide net setup wakeups
