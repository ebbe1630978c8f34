-- Three networks of ten nodes and greatest degree 4. They differ in the links of node 9, and behind four ports.
use Rattle.std.specs.Prelude.{ℕ, ◌≡◌, List, [], ◌∷◌}
use Rattle.bhs_net.specs.Links.{End}
use Rattle.bhs_net.specs.Network.{Network, IsNetwork, nodes_of, degree_of}
use Rattle.bhs_protocols_unmapped.specs.Degrees.{ports_beside}
use Rattle.bhs_protocols_unmapped.specs.Unmapped.{HasGreatestDegree}

-- A ring of nodes 0 to 7: port 0 leads to the next node, and port 1 to the node before. Port 2 of nodes 0 to 3 leads to
-- a hub, node 8. Port 2 of nodes 4 to 7 leads to the ends `of_4` to `of_7`, and `row_of_9` has the ports of node 9.
abbrev pub with_thirds : (of_4 of_5 of_6 of_7 : End) → (row_of_9 : List End) → Network
with_thirds of_4 of_5 of_6 of_7 row_of_9 =
    ((1, 1) ∷ (7, 0) ∷ (8, 0) ∷ []) ∷ ((2, 1) ∷ (0, 0) ∷ (8, 1) ∷ []) ∷ ((3, 1) ∷ (1, 0) ∷ (8, 2) ∷ [])
    ∷ ((4, 1) ∷ (2, 0) ∷ (8, 3) ∷ []) ∷ ((5, 1) ∷ (3, 0) ∷ of_4 ∷ []) ∷ ((6, 1) ∷ (4, 0) ∷ of_5 ∷ [])
    ∷ ((7, 1) ∷ (5, 0) ∷ of_6 ∷ []) ∷ ((0, 1) ∷ (6, 0) ∷ of_7 ∷ [])
    ∷ ((0, 2) ∷ (1, 2) ∷ (2, 2) ∷ (3, 2) ∷ []) ∷ row_of_9 ∷ []

-- all four lead to node 9
abbrev pub with_four : Network
with_four = with_thirds (9, 0) (9, 1) (9, 2) (9, 3) ((4, 2) ∷ (5, 2) ∷ (6, 2) ∷ (7, 2) ∷ [])

-- The variant in which nodes 4 and 6 are adjacent, and nodes 5 and 7 have links to node 9.
abbrev pub with_two : Network
with_two = with_thirds (6, 2) (9, 0) (4, 2) (9, 1) ((5, 2) ∷ (7, 2) ∷ [])

-- The variant in which nodes 5 and 7 are adjacent, and nodes 4 and 6 have links to node 9.
abbrev pub with_other_two : Network
with_other_two = with_thirds (9, 0) (7, 2) (9, 1) (5, 2) ((4, 2) ∷ (6, 2) ∷ [])

-- A network of a file, of ten nodes and greatest degree 4. Its node 9 has `count` links.
pub record IsTenNodeNetwork (net : Network) (count : ℕ) : Type 0 where
  pub network : IsNetwork net
  pub nodes : nodes_of net ≡ 10
  pub greatest : HasGreatestDegree net 4
  pub links : degree_of net 9 ≡ count
  -- On each of the three networks, the ports of all nodes but node 9 number 28.
  pub beside : ports_beside net 9 ≡ 28

abbrev pub TheThreeLookAlike : Type 0
TheThreeLookAlike =
    IsTenNodeNetwork with_four 4 × IsTenNodeNetwork with_two 2 × IsTenNodeNetwork with_other_two 2
