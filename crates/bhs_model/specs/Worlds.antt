-- The world that a match is played in.
use Rattle.std.specs.Prelude.{ℕ, Bool, ◌||◌, List, ◌==◌, ◌&&◌}
use Rattle.std.specs.List.{list_any}

-- A network. Nodes and each node's ports are numbered from 0. `far` maps a port to its link's other end: the
-- neighbouring node, and the link's label there.
pub record Network : Type 0 where
  pub nodes : ℕ
  pub degree : ℕ → ℕ
  pub far : ℕ → ℕ → ℕ × ℕ

-- a network with the home base, the black holes, the dark links (each named by the node and the port of one of its
-- ends), and the limits: how many agents there are, how many commands each may use, and how many bytes a whiteboard
-- holds
pub record World : Type 0 where
  pub net : Network
  pub home : ℕ
  pub holes : List ℕ
  pub dark : List (ℕ × ℕ)
  pub agents : ℕ
  pub quota : ℕ
  pub board : ℕ

-- whether the black holes include the node
abbrev pub is_hole : List ℕ → (node : ℕ) → Bool
is_hole holes node = list_any (λ hole. hole == node) holes

-- whether an end consists of this node and this port
abbrev pub names : (node port : ℕ) → (end : ℕ × ℕ) → Bool
names node port end = end.0 == node && (end.1 == port)

-- whether the link at this port is dark: the list of dark links contains this end or its far end
abbrev pub is_dark : (far : ℕ → ℕ → ℕ × ℕ) → List (ℕ × ℕ) → (node port : ℕ) → Bool
is_dark far dark node port = list_any (λ end. names node port end || names node port (far end.0 end.1)) dark

-- whether the link that leaves the node by the port destroys who travels on it. Nothing else says what
-- destroys: the link leads to a black hole, or is dark.
abbrev pub doomed : World → (node port : ℕ) → Bool
doomed world node port = is_hole world.holes (world.net.far node port).0 || is_dark world.net.far world.dark node port
