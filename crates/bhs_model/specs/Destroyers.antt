-- How destroying nodes and links are marked: a mark for each node, and a mark for each port.
use Rattle.std.specs.Prelude.{ℕ, ◌≡◌, Bool, false, ◌||◌, List, length, replicate, slice_index_or}
use Rattle.bhs_net.specs.Network.{Network, nodes_of, far_of}
use Rattle.bhs_model.specs.Worlds.{is_hole, is_dark}
use Rattle.bhs_model.specs.PortMarks.{mark_at, unmarked}

-- For each node, whether it is a black hole; for each port, whether its link is dark.
pub record Signs : Type 0 where
  pub nodes : List Bool
  pub ports : List (List Bool)

-- no marks on this network
abbrev pub no_signs : Network → Signs
no_signs net = record { nodes = replicate (nodes_of net) false; ports = unmarked (nodes_of net) }

-- whether a node is marked
abbrev pub is_marked : Signs → (node : ℕ) → Bool
is_marked signs node = slice_index_or signs.nodes node false

-- whether the link at a port leads to a marked node, or is marked
abbrev pub is_signed : Network → Signs → (node port : ℕ) → Bool
is_signed net signs node port = is_marked signs (far_of net node port).0 || mark_at signs.ports node port

-- the marks say which nodes are these holes, and which links these dark ones
pub record AreSignsOf (net : Network) (holes : List ℕ) (dark : List (ℕ × ℕ)) (signs : Signs) : Type 0 where
  pub nodes : length signs.nodes ≡ nodes_of net
  pub rows : length signs.ports ≡ nodes_of net
  pub marked_nodes : (node : ℕ) → is_marked signs node ≡ is_hole holes node
  pub marked_ports : (node port : ℕ) → mark_at signs.ports node port ≡ is_dark (far_of net) dark node port
