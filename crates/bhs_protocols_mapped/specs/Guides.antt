-- What agents work out beforehand that have a map and know their home base, but not where the black hole is: an order
-- of the nodes by which one can explore them from either end.
use Rattle.std.specs.Prelude.{ℕ, ◌+◌, ◌≡◌, ◌<◌, ◌≤◌}
use Rattle.bhs_net.specs.Network as networks
use Rattle.bhs_model.specs.Worlds.{Network}
use Rattle.bhs_model.specs.Setups.{network_of}

-- A way from the home base to a node of a side, link by link. At each step, counted from the home base: which node of
-- the side it is at, by which port one goes on, and by which one goes back.
pub record Route : Type 0 where
  pub steps : ℕ
  pub place : (step : ℕ) → ℕ
  pub ahead : (step : ℕ) → ℕ
  pub behind : (step : ℕ) → ℕ

-- For each side, 0 and 1: a sequence of nodes, and a route to each node. Index 0 of both sequences is the home base.
pub record Guide : Type 0 where
  pub node : (side place : ℕ) → ℕ
  pub route : (side place : ℕ) → Route

-- it leads from the home base to the k-th node of the side, past nodes of the side that come earlier, and as one goes
-- on by the ports ahead, one comes back by those behind
pub record IsRoute (net : Network) (node : (place : ℕ) → ℕ) (k : ℕ) (route : Route) : Type 0 where
  pub few : route.steps ≤ k
  pub first : route.place 0 ≡ 0
  pub last : route.place route.steps ≡ k
  pub early : (step : ℕ) → step < route.steps → route.place step < k
  pub ahead : (step : ℕ) → step < route.steps → route.ahead step < net.degree (node (route.place step))
  pub behind : (step : ℕ) → step < route.steps
      → route.behind (step + 1) < net.degree (node (route.place (step + 1)))
  pub out : (step : ℕ) → step < route.steps → net.far (node (route.place step)) (route.ahead step)
      ≡ (node (route.place (step + 1)), route.behind (step + 1))
  pub back : (step : ℕ) → step < route.steps → net.far (node (route.place (step + 1))) (route.behind (step + 1))
      ≡ (node (route.place step), route.ahead step)

-- The guide shows the nodes of this network of n nodes in an order from the home base, each of them once: side 0 has
-- them in this order, and side 1 has them in the opposite one. To each node of a side there is a way past earlier ones.
pub record IsGuide (net : Network) (home n : ℕ) (guide : Guide) : Type 0 where
  pub three : 3 ≤ n
  pub size : net.nodes ≡ n
  pub start : (side : ℕ) → guide.node side 0 ≡ home
  pub around : (place rest : ℕ) → place + rest ≡ n → 0 < place → 0 < rest → guide.node 1 place ≡ guide.node 0 rest
  pub apart : (one other : ℕ) → one < n → other < n → guide.node 0 one ≡ guide.node 0 other → one ≡ other
  pub all : (node : ℕ) → node < n → (place : ℕ) × (place < n) × (guide.node 0 place ≡ node)
  pub routes : (side k : ℕ) → side < 2 → k < n → IsRoute net (guide.node side) k (guide.route side k)

-- a guide for this network, from this home base
pub record HasGuide (net : networks.Network) (home : ℕ) : Type 0 where
  pub guide : Guide
  pub guides : IsGuide (network_of net) home (networks.nodes_of net) guide

-- each network of a file has a guide from each home base
abbrev pub NetworksHaveGuides : Type 0
NetworksHaveGuides = (net : networks.Network) (home : ℕ) → networks.IsNetwork net → home < networks.nodes_of net
    → HasGuide net home

-- Conversely, a simple port-labelled graph with a guide from each home base is 2-connected: it stays connected without
-- any single node.
abbrev pub OnlyNetworksHaveGuides : Type 0
OnlyNetworksHaveGuides = (net : networks.Network) → networks.IsPortLabelled net
    → ((home : ℕ) → home < networks.nodes_of net → HasGuide net home) → networks.IsNetwork net
