-- Links that are held: over them no draw lets an agent arrive. A link has two directions, and each is held by itself.
use Rattle.std.specs.Prelude.{ℕ, Bool, ◌&&◌, not, ◌==◌, nat_lt, Option, List, position}
use Rattle.std.specs.List.{list_any}
use Rattle.bhs_net.specs.Network.{Network, degree_of}

-- whether a pair names this port of this node
abbrev pub names : (node port : ℕ) → ℕ × ℕ → Bool
names node port pair = pair.0 == node && (pair.1 == port)

-- the directed links that these pairs name, each by the node and the port by which it is left
abbrev pub held_in : List (ℕ × ℕ) → (node port : ℕ) → Bool
held_in pairs node port = list_any (names node port) pairs

-- whether a pair names an existing port
abbrev pub is_port_of : Network → ℕ × ℕ → Bool
is_port_of net pair = nat_lt pair.1 (degree_of net pair.0)

-- the place of the first pair that names no port
abbrev pub first_strange : Network → List (ℕ × ℕ) → Option ℕ
first_strange net pairs = position (λ pair. not (is_port_of net pair)) pairs
