-- The world of the definitions that a network and a setup make, and the normal form of a setup.
use Rattle.std.specs.Prelude.{ℕ, Bool, ◌&&◌, ◌≡◌, List, map, filter, nat_lt}
use Rattle.std.specs.List.{flat_map, range_with_len}
use Rattle.bhs_net.specs.Network as networks
use Rattle.bhs_model.specs.declared.setups.Setup.{Setup}
use Rattle.bhs_model.specs.Worlds.{Network, World, is_hole, is_dark}

-- a network as the definitions see it
abbrev pub network_of : networks.Network → Network
network_of net = record { nodes = networks.nodes_of net; degree = networks.degree_of net; far = networks.far_of net }

-- the world of a match on this network, set up so
abbrev pub world_of : networks.Network → Setup → World
world_of net setup = record {
  net = network_of net;
  home = setup.home;
  holes = setup.holes;
  dark = setup.dark;
  agents = setup.agents;
  quota = setup.quota;
  board = setup.board;
}

-- the nodes of a network at which a test holds, in order
abbrev pub nodes_where : networks.Network → (ℕ → Bool) → List ℕ
nodes_where net test = filter test (range_with_len 0 (networks.nodes_of net))

-- whether a test holds of the link at an end, and the far end is at a greater node
abbrev pub is_lesser_end : networks.Network → (ℕ → ℕ → Bool) → ℕ × ℕ → Bool
is_lesser_end net test end = test end.0 end.1 && nat_lt end.0 (networks.far_of net end.0 end.1).0

-- of the links of a network at which a test holds, those whose lesser end is at a node, in the order of its ports
abbrev pub links_at : networks.Network → (ℕ → ℕ → Bool) → (node : ℕ) → List (ℕ × ℕ)
links_at net test node = filter (is_lesser_end net test)
    (map (λ port. (node, port)) (range_with_len 0 (networks.degree_of net node)))

-- the links of a network at which a test holds, each by its end at the lesser node, in the order of these nodes and
-- their ports
abbrev pub links_where : networks.Network → (ℕ → ℕ → Bool) → List (ℕ × ℕ)
links_where net test = flat_map (links_at net test) (range_with_len 0 (networks.nodes_of net))

-- The normal form of a setup: the same black holes and the same dark links, each once and in order. It is a function of
-- which nodes are black holes and which links are dark, however they are listed.
abbrev pub normal : networks.Network → Setup → Setup
normal net setup = record setup {
  holes = nodes_where net (is_hole setup.holes);
  dark = links_where net (is_dark (networks.far_of net) setup.dark);
}

-- a setup that is its own normal form
pub record IsNormal (net : networks.Network) (setup : Setup) : Type 0 where
  pub same : normal net setup ≡ setup
