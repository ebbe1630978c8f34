use Rattle.std.specs.Prelude.{◌≡◌, ◌≢◌, ℕ, ◌<◌, List, [], length, map, slice_get, slice_index_or, Vec, Option, Some}
use Rattle.std.specs.declared.alloc.Global.{Global}
use Rattle.bhs_net.specs.declared.links.Link.{Link}
use Rattle.bhs_net.specs.Links.{End, near_end, far_end, link_at, AreJoined}
use Rattle.bhs_net.specs.Network.{Network, nodes_of, row_of}

-- by node and port the place in the list of a link that has this end
abbrev pub Index : Type 0
Index = List (List ℕ)

-- the index that rows in memory show
abbrev pub index_of : List (Vec ℕ Global) → Index
index_of rows = map (λ row. row.items) rows

-- the places of a node's links in the index
abbrev pub places_at : Index → ℕ → List ℕ
places_at index node = slice_index_or index node []

-- the place of an end's link in the index
abbrev pub place_at : Index → End → Option ℕ
place_at index end = slice_get (places_at index end.0) end.1

-- The index contains each link under both ends.
abbrev pub AreIndexed : List Link → Index → Type 0
AreIndexed links index = (place : ℕ) → place < length links
    → (place_at index (near_end (link_at links place)) ≡ Some place)
    × (place_at index (far_end (link_at links place)) ≡ Some place)

-- a row has the far ends of a node's ports, as many as there are places
pub record IsFilled (links : List Link) (node : ℕ) (places : List ℕ) (row : List End) : Type 0 where
  pub size : length row ≡ length places
  pub joined : (port : ℕ) → port < length row → AreJoined links (node, port) (slice_index_or row port (0, 0))

-- each node has its row
pub record AreFilled (links : List Link) (index : Index) (net : Network) : Type 0 where
  pub size : nodes_of net ≡ length index
  pub rows : (node : ℕ) → node < nodes_of net → IsFilled links node (places_at index node) (row_of net node)

-- no two ports of a row lead to one node
abbrev pub LeadsApart : List End → Type 0
LeadsApart row = (port other : ℕ) → port < length row → other < length row → (slice_index_or row port (0, 0)).0
    ≡ (slice_index_or row other (0, 0)).0 → port ≡ other

-- no earlier port of the row leads to the node of this one
abbrev pub IsFirst : List End → ℕ → Type 0
IsFirst row port = (other : ℕ) → other < port
    → (slice_index_or row other (0, 0)).0 ≢ (slice_index_or row port (0, 0)).0

-- no two ports of any row lead to one node
abbrev pub AllLeadApart : Network → Type 0
AllLeadApart net = (node : ℕ) → node < nodes_of net → LeadsApart (row_of net node)
