use Rattle.std.specs.Prelude.{◌≡◌, ℕ, ◌<◌, ◌≤◌, ◌⊎◌, List, length, slice_index_or, Some, None}
use Rattle.std.specs.declared.cmp.Ordering.{Ordering}
use Rattle.std.specs.Ordering.{nat_cmp, ordering_then}
use Rattle.std.specs.BTreeMap.{BTreeMap, get}
use Rattle.bhs_net.specs.declared.faults.NetFault.{NetFault}
use Rattle.bhs_net.specs.declared.links.Link.{Link}
use Rattle.bhs_net.specs.Links.{End, near_end, far_end, link_at, IsListed, AreJoined}
use Rattle.bhs_net.specs.Network.{Network, nodes_of, row_of, degree_of, HasPort}

-- P holds at this place and at no earlier place.
abbrev pub IsLeast : (ℕ → Type 0) → ℕ → Type 0
IsLeast P place = P place × ((early : ℕ) → early < place → ¬ P early)

-- the fault tells the least place at which P holds
abbrev pub TellsLeast : (ℕ → NetFault) → (ℕ → Type 0) → NetFault → Type 0
TellsLeast fault_at P fault = (place : ℕ) × (fault ≡ fault_at place) × IsLeast P place

-- ends by node, and of one node by port
abbrev pub end_cmp : End → End → Ordering
end_cmp a b = ordering_then (nat_cmp a.0 b.0) (nat_cmp a.1 b.1)

-- The map sends each listed end to the end that a link joins with it, and has no further keys.
pub record MapsEnds (links : List Link) (far_ends : BTreeMap End End) : Type 0 where
  pub sound : (end other : End) → get end_cmp far_ends end ≡ Some other → AreJoined links end other
  pub whole : (end other : End) → AreJoined links end other → get end_cmp far_ends end ≡ Some other

-- the row has the far ends of the node's ports from port 0 to the first that the map lacks
pub record IsRowOf (far_ends : BTreeMap End End) (node : ℕ) (row : List End) : Type 0 where
  pub ports : (port : ℕ) → port < length row → get end_cmp far_ends (node, port) ≡ Some (slice_index_or row port (0, 0))
  pub stops : (get end_cmp far_ends (node, length row) ≡ None) ⊎ (length row ≡ 65536)

-- each node has its row
pub record AreRowsOf (far_ends : BTreeMap End End) (nodes : ℕ) (net : Network) : Type 0 where
  pub size : nodes_of net ≡ nodes
  pub rows : (node : ℕ) → node < nodes → IsRowOf far_ends node (row_of net node)

-- each end that is listed is in its node's row
abbrev pub HasAllPorts : List Link → Network → Type 0
HasAllPorts links net = (place : ℕ) → place < length links → HasPort net (near_end (link_at links place))
    × HasPort net (far_end (link_at links place))

-- an end that is listed lies beyond its node's row
abbrev pub IsBeyond : List Link → Network → ℕ → Type 0
IsBeyond links net node = (port : ℕ) × IsListed links (node, port) × (degree_of net node ≤ port)
