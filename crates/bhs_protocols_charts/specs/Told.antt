-- How agents can tell how many links the black hole has, by how many ports the other nodes have together. Each link has
-- two ports.
use Rattle.std.specs.Prelude.{ℕ, ◌+◌, ◌-◌, ◌*◌, ◌%◌}

-- The agents know the number of links. The ports that no other node has are the black hole's.
abbrev pub by_links : (links ports : ℕ) → ℕ
by_links links ports = 2 * links - ports

-- The agents know that no node has more than three links. The black hole has two or three, as all ports together are
-- even in number.
abbrev pub by_parity : (ports : ℕ) → ℕ
by_parity ports = 2 + ports % 2

-- The agents know that each node has this number of links.
abbrev pub by_degree : (degree ports : ℕ) → ℕ
by_degree degree ports = degree
