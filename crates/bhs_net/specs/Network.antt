use Rattle.std.specs.Prelude.{◌≡◌, ◌≢◌, ℕ, ◌<◌, ◌≤◌, List, [], length, slice_index_or, sum_by, map, Vec}
use Rattle.std.specs.declared.alloc.Global.{Global}
use Rattle.bhs_net.specs.declared.faults.TheConstants.{MIN_NODES, MAX_NODES}
use Rattle.bhs_net.specs.declared.links.Link.{Link}
use Rattle.bhs_net.specs.Links.{End, near_end, far_end, link_at, AreJoined, SharesEnd}
use Rattle.bhs_net.specs.Paths.{IsPath, Without}

-- per node the far ends of its ports, port 0 first
abbrev pub Network : Type 0
Network = List (List End)

-- the network that rows in memory show
abbrev pub network_of : List (Vec End Global) → Network
network_of rows = map (λ row. row.items) rows

-- how many nodes there are
abbrev pub nodes_of : Network → ℕ
nodes_of net = length net

-- the far ends of the node's ports: none if the node does not exist
abbrev pub row_of : Network → ℕ → List End
row_of net node = slice_index_or net node []

-- how many ports the node has
abbrev pub degree_of : Network → ℕ → ℕ
degree_of net node = length (row_of net node)

-- the end that a port of the node leads to
abbrev pub far_of : Network → ℕ → ℕ → End
far_of net node port = slice_index_or (row_of net node) port (0, 0)

-- how many ports the nodes have together: each link has two
abbrev pub ports_of : Network → ℕ
ports_of net = sum_by length net

-- the node has this port
abbrev pub HasPort : Network → End → Type 0
HasPort net end = end.1 < degree_of net end.0

-- Some port of the first node leads to the second node.
abbrev pub Leads : Network → ℕ → ℕ → Type 0
Leads net node other = (port : ℕ) × (port < degree_of net node) × ((far_of net node port).0 ≡ other)

-- a simple graph with port labels: from 3 to 4,096 nodes, ports that lead back, no link from a node to itself,
-- and no two links between the same nodes
pub record IsPortLabelled (net : Network) : Type 0 where
  pub few : MIN_NODES ≤ nodes_of net
  pub many : nodes_of net ≤ MAX_NODES
  pub within : (node port : ℕ) → port < degree_of net node → HasPort net (far_of net node port)
  pub back : (node port : ℕ) → port < degree_of net node
      → far_of net (far_of net node port).0 (far_of net node port).1 ≡ (node, port)
  pub no_loop : (node port : ℕ) → port < degree_of net node → (far_of net node port).0 ≢ node
  pub simple : (node port other : ℕ) → port < degree_of net node → other < degree_of net node → (far_of net node port).0
      ≡ (far_of net node other).0 → port ≡ other

-- any two nodes are joined by a path
abbrev pub IsConnected : Network → Type 0
IsConnected net = (node other : ℕ) → node < nodes_of net → other < nodes_of net → IsPath (Leads net) node other

-- any two other nodes are joined by a path that keeps off this one
abbrev pub AreJoinedWithout : Network → ℕ → Type 0
AreJoinedWithout net cut = (node other : ℕ) → node < nodes_of net → other < nodes_of net → node ≢ cut → other ≢ cut
    → IsPath (Without cut (Leads net)) node other

-- a network: a simple graph with port labels that is connected, and still so when any one node is removed
pub record IsNetwork (net : Network) : Type 0 where
  pub labelled : IsPortLabelled net
  pub connected : IsConnected net
  pub biconnected : (cut : ℕ) → cut < nodes_of net → AreJoinedWithout net cut

-- The list contains each link of the network exactly once.
pub record HasLinks (net : Network) (links : List Link) : Type 0 where
  pub near : (place : ℕ) → place < length links → HasPort net (near_end (link_at links place))
      × (far_of net (link_at links place).v (link_at links place).p ≡ far_end (link_at links place))
  pub far : (place : ℕ) → place < length links → HasPort net (far_end (link_at links place))
      × (far_of net (link_at links place).w (link_at links place).q ≡ near_end (link_at links place))
  pub all : (node port : ℕ) → port < degree_of net node → AreJoined links (node, port) (far_of net node port)
  pub once : (early late : ℕ) → early < late → late < length links
      → ¬ SharesEnd (link_at links early) (link_at links late)

-- the links make this network: it has this number of nodes and just these links
pub record Makes (nodes : ℕ) (links : List Link) (net : Network) : Type 0 where
  pub size : nodes_of net ≡ nodes
  pub network : IsNetwork net
  pub made_of : HasLinks net links
