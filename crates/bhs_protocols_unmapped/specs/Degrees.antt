-- When agents can tell how many links a node has to which they never come: by the ports of all others.
use Rattle.std.specs.Prelude.{ℕ, ◌+◌, ◌*◌, ◌%◌, ◌≡◌, ◌<◌, ◌≤◌, List, [], ◌∷◌, length, take, drop}
use Rattle.bhs_net.specs.declared.links.Link.{Link}
use Rattle.bhs_net.specs.Network.{Network, IsNetwork, HasLinks, nodes_of, degree_of, ports_of}

-- how many ports all nodes but this one have together
abbrev pub ports_beside : Network → (node : ℕ) → ℕ
ports_beside net node = ports_of (take node net) + ports_of (drop (node + 1) net)

-- Who knows how many links the network has can tell.
abbrev pub LinksTell : Type 0
LinksTell = (net : Network) (links : List Link) (node : ℕ) → IsNetwork net → HasLinks net links → node < nodes_of net
    → degree_of net node + ports_beside net node ≡ 2 * length links

-- So can who knows no more than that the node has three links at most: it has two if the others have an even number of
-- ports together, and three if it is odd.
abbrev pub ParityTells : Type 0
ParityTells = (net : Network) (links : List Link) (node : ℕ) → IsNetwork net → HasLinks net links → node < nodes_of net
    → degree_of net node ≤ 3 → degree_of net node ≡ 2 + ports_beside net node % 2

-- a square with a diagonal from node 0 to node 2
abbrev pub square : Network
square = ((1, 0) ∷ (3, 1) ∷ (2, 2) ∷ []) ∷ ((0, 0) ∷ (2, 0) ∷ []) ∷ ((1, 1) ∷ (3, 0) ∷ (0, 2) ∷ [])
    ∷ ((2, 1) ∷ (0, 1) ∷ []) ∷ []

-- seven ports beside a node of three links, and eight beside one of two
abbrev pub TheSquareTells : Type 0
TheSquareTells = (ports_beside square 2 ≡ 7) × (degree_of square 2 ≡ 2 + ports_beside square 2 % 2)
    × (ports_beside square 3 ≡ 8) × (degree_of square 3 ≡ 2 + ports_beside square 3 % 2)
