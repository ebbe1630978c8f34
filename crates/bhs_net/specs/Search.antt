use Rattle.std.specs.Prelude.{◌≡◌, ◌≢◌, ℕ, ◌<◌, Bool, true, false, List, length, slice_index_or}
use Rattle.bhs_net.specs.Paths.{IsPath, Without}
use Rattle.bhs_net.specs.Network.{Network, nodes_of, Leads}

-- the node has a mark
abbrev pub IsMarked : List Bool → ℕ → Type 0
IsMarked marks node = slice_index_or marks node false ≡ true

-- the marks are at the nodes to which paths lead from `start` that keep off `removed`
pub record MarksReached (net : Network) (start removed : ℕ) (marks : List Bool) : Type 0 where
  pub size : length marks ≡ nodes_of net
  pub sound : (node : ℕ) → IsMarked marks node → IsPath (Without removed (Leads net)) start node
  pub whole : (node : ℕ) → IsPath (Without removed (Leads net)) start node → IsMarked marks node

-- paths that keep off `removed` lead from `start` to every other node
abbrev pub ReachesAll : Network → ℕ → ℕ → Type 0
ReachesAll net start removed = (node : ℕ) → node < nodes_of net → node ≢ removed
    → IsPath (Without removed (Leads net)) start node

-- None of these paths leads to some node other than `removed`.
abbrev pub MissesSome : Network → ℕ → ℕ → Type 0
MissesSome net start removed = (node : ℕ) × (node < nodes_of net) × (node ≢ removed)
    × ¬ IsPath (Without removed (Leads net)) start node

-- no path joins some two nodes
abbrev pub IsApartIn : Network → Type 0
IsApartIn net = (node other : ℕ) × (node < nodes_of net) × (other < nodes_of net) × ¬ IsPath (Leads net) node other

-- no path that keeps off the node joins some two others
abbrev pub IsCutIn : Network → ℕ → Type 0
IsCutIn net cut = (cut < nodes_of net) × ((node other : ℕ) × (node < nodes_of net) × (other < nodes_of net)
    × (node ≢ cut) × (other ≢ cut) × ¬ IsPath (Without cut (Leads net)) node other)
