-- The three networks of ten nodes are those of the proof that nobody finds the black hole.
use Rattle.std.proofs.Common.{ℕ, ◌+◌, ◌≤◌, ◌≡◌, refl, sym, subst, ◌∙◌, arith}
use Rattle.bhs_net.specs.declared.faults.TheConstants.{MAX_NODES}
use Rattle.bhs_net.specs.Network.{Network, IsNetwork}
use Rattle.bhs_protocols_unmapped.specs.Unmapped.{HasGreatestDegree}
use Rattle.bhs_protocols_unmapped.specs.Lookalikes.{with_four, with_two, with_other_two, TheThreeLookAlike}
use Rattle.bhs_protocols_unmapped.proofs.Shapes.{Shape, IsShape, net_of, row_in, leads, degrees, degree_is, degrees_hub}
use Rattle.bhs_protocols_unmapped.proofs.Shapes.{is_network, few_links}
use Rattle.bhs_protocols_unmapped.proofs.Rims.{beside}
use Rattle.bhs_protocols_unmapped.proofs.Three.{star, star_is, twin, twin_is, left_is, right_is}

four : 4 ≤ 4
four = omega arith

wide : 4 + 4 ≤ 8
wide = omega arith

fits : 8 + 2 ≤ MAX_NODES
fits = omega arith

module _ (shape : Shape) (is : IsShape 4 8 shape) where
  network : IsNetwork (net_of 4 8 shape)
  network = is_network 4 8 four wide fits shape is

  greatest : HasGreatestDegree (net_of 4 8 shape) 4
  greatest = record {
    most = λ node. subst (λ (n : ℕ). n ≤ 4) (sym (degree_is 4 8 four wide shape node))
        (few_links 4 8 four wide fits shape is node);
    attained = (8, degree_is 4 8 four wide shape 8 ∙ degrees_hub 4 8 shape.holes 8 four wide refl);
  }

abbrev one : Shape
one = star 4 8 four wide

abbrev two : Shape
two = twin 4 8 four wide 4 6 5 7

abbrev other : Shape
other = twin 4 8 four wide 5 7 4 6

one_is : net_of 4 8 one ≡ with_four
unfolding net_of row_in leads degrees beside
one_is = refl

two_is : net_of 4 8 two ≡ with_two
unfolding net_of row_in leads degrees beside
two_is = refl

other_is : net_of 4 8 other ≡ with_other_two
unfolding net_of row_in leads degrees beside
other_is = refl

pub three_look_alike : TheThreeLookAlike
three_look_alike = (
  record {
    network = subst IsNetwork one_is (network one (star_is 4 8 four wide));
    nodes = refl;
    greatest = subst (λ (net : Network). HasGreatestDegree net 4) one_is (greatest one (star_is 4 8 four wide));
    links = refl;
    beside = refl;
  },
  record {
    network = subst IsNetwork two_is (network two (twin_is 4 8 four wide 4 6 5 7 (left_is 4 8 four wide)));
    nodes = refl;
    greatest = subst (λ (net : Network). HasGreatestDegree net 4) two_is
        (greatest two (twin_is 4 8 four wide 4 6 5 7 (left_is 4 8 four wide)));
    links = refl;
    beside = refl;
  },
  record {
    network = subst IsNetwork other_is (network other (twin_is 4 8 four wide 5 7 4 6 (right_is 4 8 four wide)));
    nodes = refl;
    greatest = subst (λ (net : Network). HasGreatestDegree net 4) other_is
        (greatest other (twin_is 4 8 four wide 5 7 4 6 (right_is 4 8 four wide)));
    links = refl;
    beside = refl;
  },
)
