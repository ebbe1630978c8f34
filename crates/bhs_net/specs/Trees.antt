-- What the tables of a depth-first search show of a network: that most of its nodes cut nothing.
use Rattle.std.specs.Prelude.{◌≡◌, ◌≢◌, ℕ, ◌<◌, ◌⊎◌, List, length, slice_index_or}
use Rattle.bhs_net.specs.declared.depth_first_search.DepthFirst.{DepthFirst}
use Rattle.bhs_net.specs.Links.{End}
use Rattle.bhs_net.specs.Network.{Network, nodes_of, row_of}
use Rattle.bhs_net.specs.DepthFirst.{place_in}

-- some port of the row leads to the node
abbrev pub HasHead : List End → ℕ → Type 0
HasHead row node = (port : ℕ) × (port < length row) × ((slice_index_or row port (0, 0)).0 ≡ node)

-- the place of a node, the node from which it was found, the lowest place that a way from it leads to, and the
-- neighbour over which that way begins
abbrev pub place : DepthFirst → ℕ → ℕ
place search node = place_in search.places node

abbrev pub parent : DepthFirst → ℕ → ℕ
parent search node = place_in search.parents node

abbrev pub low : DepthFirst → ℕ → ℕ
low search node = place_in search.lows node

abbrev pub escape : DepthFirst → ℕ → ℕ
escape search node = place_in search.escapes node

-- A node with this row belongs to the search tree: it has a link to its parent, which was discovered earlier, and a
-- link to its escape neighbour, over which the path to its low point begins. The escape neighbour is at the low point
-- itself, or was discovered later and has the same low point.
pub record Hangs (row : List End) (search : DepthFirst) (nodes node : ℕ) : Type 0 where
  pub within : place search node < nodes
  pub up : HasHead row (parent search node)
  pub later : place search (parent search node) < place search node
  pub out : HasHead row (escape search node)
  pub lowest : (place search (escape search node) ≡ low search node)
      ⊎ ((low search (escape search node) ≡ low search node)
      × (place search node < place search (escape search node)))

-- the first node has the place 0, and all others hang in the tree
pub record IsTree (net : Network) (search : DepthFirst) : Type 0 where
  pub root : place search 0 ≡ 0
  pub hung : (node : ℕ) → node < nodes_of net → node ≢ 0 → Hangs (row_of net node) search (nodes_of net) node

-- A path leads from a child past its parent to a place below the parent; or the parent is the root and this child is
-- its only child.
abbrev pub LeadsPast : DepthFirst → (node child : ℕ) → Type 0
LeadsPast search node child =
    ((node ≡ 0) × (child ≡ place_in search.found 1)) ⊎ ((node ≢ 0) × (low search child < place search node))

-- ways lead past a node from all nodes that were found from it
abbrev pub AllLeadPast : DepthFirst → (nodes node : ℕ) → Type 0
AllLeadPast search nodes node =
    (child : ℕ) → child < nodes → child ≢ 0 → parent search child ≡ node → LeadsPast search node child
