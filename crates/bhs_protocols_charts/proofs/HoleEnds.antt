-- Nodes of a network that are told apart, and the ports of all other nodes that lead to the black hole.
use Rattle.std.proofs.Common.{ℕ, zero, suc, ◌+◌, ◌*◌, ◌<◌, ◌≤◌, ◌≡◌, ⊎_elim, Bool, true, false, not, ◌==◌}
use Rattle.std.proofs.Common.{[], length, refl, sym, ap, ap₂, ◌∙◌, subst, arith, mul-le-mul_right}
use Rattle.std.proofs.lemmas.Bool.{cases_eq, eqb-true, eq-eqb, ne_eqb, not-false, not_from_false, false_from_ne_true}
use Rattle.std.specs.Prelude.{◌≢◌}
use Rattle.bhs_net.specs.Network.{Network, IsPortLabelled, nodes_of, degree_of, far_of}
use Rattle.bhs_net.proofs.Places.{lt_or_ge}
use Rattle.bhs_net.proofs.Listed.{HasPort-node}
use Rattle.bhs_protocols_unmapped.specs.Degrees.{ports_beside}
use Rattle.bhs_protocols_unmapped.proofs.Degrees.{all_ports}
use Rattle.bhs_protocols_charts.proofs.Totals.{total, one_if, total_same, total_grows, total_add, total_constant}
use Rattle.bhs_protocols_charts.proofs.Totals.{total_swapped, total_first, summand_within, at_most_one, one_is}
use Rattle.bhs_protocols_charts.proofs.Totals.{none_pass, some_fails, sum_is_total}

-- so many places, each of them another node than the hole, and no two the same
pub record ArePlaces (nodes hole : ℕ) (place : ℕ → ℕ) (rows : ℕ) : Type 0 where
  pub within : (i : ℕ) → i < rows → place i < nodes
  pub safe : (i : ℕ) → i < rows → place i ≢ hole
  pub apart : (i j : ℕ) → i < rows → j < rows → place i ≡ place j → i ≡ j

-- ---- places in general
-- a factor of all summands is a factor of the sum
total_times : (f : ℕ → ℕ) (factor n : ℕ) → total (λ k. f k * factor) n ≡ total f n * factor
total_times f factor zero = omega arith
total_times f factor (suc n) = omega (arith, total_times f factor n)

-- The sum counts a value once if exactly one number passes the test, else not at all.
counted_once : (test : ℕ → Bool) (n value : ℕ)
    → ((i j : ℕ) → i < n → j < n → test i ≡ true → test j ≡ true → i ≡ j)
    → total (λ k. one_if (test k) * value) n ≤ value
counted_once test n value one = omega (
  arith,
  total_times (λ k. one_if (test k)) value n,
  mul-le-mul_right value (at_most_one test n one),
)

-- Different places have together no more than all nodes.
differing : (f place : ℕ → ℕ) (rows nodes : ℕ) → ((i : ℕ) → i < rows → place i < nodes)
    → ((i j : ℕ) → i < rows → j < rows → place i ≡ place j → i ≡ j)
    → total (λ i. f (place i)) rows ≤ total f nodes
differing f place rows nodes within apart = omega (
  arith,
  total_grows (λ i. f (place i)) (λ i. total (share i) nodes) rows at_place,
  total_swapped share nodes rows,
  total_grows (λ node. total (λ i. share i node) rows) f nodes at_node,
)
  where
    share : ℕ → ℕ → ℕ
    share i node = one_if (place i == node) * f node

    at_place : (i : ℕ) → i < rows → f (place i) ≤ total (share i) nodes
    at_place i low =
        let here = ap (λ b. one_if b * f (place i)) (eq-eqb (place i) (place i) refl) in
        omega (arith, here, summand_within (share i) nodes (place i) (within i low))

    at_node : (node : ℕ) → node < nodes → total (λ i. share i node) rows ≤ f node
    at_node node low = counted_once (λ i. place i == node) rows (f node) (λ i j below under one other.
        apart i j below under (eqb-true (place i) node one ∙ sym (eqb-true (place j) node other)))

-- If every node is among the places, then the sum over the places is at least the sum over all nodes.
covering : (f place : ℕ → ℕ) (rows nodes : ℕ)
    → ((node : ℕ) → node < nodes → (i : ℕ) × (i < rows) × (place i ≡ node))
    → total f nodes ≤ total (λ i. f (place i)) rows
covering f place rows nodes all = omega (
  arith,
  total_grows f (λ node. total (λ i. share i node) rows) nodes at_node,
  total_swapped share nodes rows,
  total_grows (λ i. total (share i) nodes) (λ i. f (place i)) rows at_place,
)
  where
    share : ℕ → ℕ → ℕ
    share i node = one_if (place i == node) * f (place i)

    at_node : (node : ℕ) → node < nodes → f node ≤ total (λ i. share i node) rows
    at_node node low =
        let it = all node low in
        let here = ap₂ (λ b value. one_if b * value) (eq-eqb (place it.0) node it.2) (ap f it.2) in
        omega (arith, here, summand_within (λ i. share i node) rows it.0 it.1)

    at_place : (i : ℕ) → i < rows → total (share i) nodes ≤ f (place i)
    at_place i low = counted_once (λ node. place i == node) nodes (f (place i)) (λ a b below under one other.
        sym (eqb-true (place i) a one) ∙ eqb-true (place i) b other)

-- the sequence of the black hole followed by the places
abbrev with_hole : ℕ → (ℕ → ℕ) → ℕ → ℕ
with_hole hole place zero = hole
with_hole hole place (suc i) = place i

module _ (nodes hole : ℕ) (within : hole < nodes) (place : ℕ → ℕ) (rows : ℕ)
    (are : ArePlaces nodes hole place rows) where
  with_hole_within : (i : ℕ) → i < suc rows → with_hole hole place i < nodes
  with_hole_within zero low = within
  with_hole_within (suc i) low = are.within i (omega arith)

  with_hole_apart : (i j : ℕ) → i < suc rows → j < suc rows → with_hole hole place i ≡ with_hole hole place j → i ≡ j
  with_hole_apart zero zero low below same = refl
  with_hole_apart zero (suc j) low below same = absurd (are.safe j (omega arith) (sym same))
  with_hole_apart (suc i) zero low below same = absurd (are.safe i (omega arith) same)
  with_hole_apart (suc i) (suc j) low below same = ap suc (are.apart i j (omega arith) (omega arith) same)

  -- The places and the hole have together no more than all nodes.
  pub places_have : (f : ℕ → ℕ) → total (λ i. f (place i)) rows + f hole ≤ total f nodes
  places_have f = omega (
    arith,
    differing f (with_hole hole place) (suc rows) nodes with_hole_within with_hole_apart,
    total_first (λ i. f (with_hole hole place i)) rows,
  )

  -- There are fewer places than nodes.
  pub places_few : rows + 1 ≤ nodes
  places_few = omega (arith, places_have (λ k. 1), total_constant 1 rows, total_constant 1 nodes)

  -- If one place fewer than nodes is given, each node but the hole is a place.
  pub all_places : rows + 1 ≡ nodes → (node : ℕ) → node < nodes → node ≢ hole → (i : ℕ) × (i < rows) × (place i ≡ node)
  all_places all node low other =
      let found = some_fails (λ i. not (place i == node)) rows few in
      (found.0, found.1, eqb-true (place found.0) node (not-false (place found.0 == node) found.2))
    where
      others : ℕ → ℕ
      others k = one_if (not (k == node))

      one_of : (b : Bool) → one_if (not b) + one_if b ≡ 1
      one_of true = refl
      one_of false = refl

      few : total (λ i. others (place i)) rows < rows
      few = omega (
        arith,
        places_have others,
        ap one_if (not_from_false (hole == node) (ne_eqb hole node (λ same. other (sym same)))),
        total_add others (λ k. one_if (k == node)) nodes,
        total_same (λ k. others k + one_if (k == node)) (λ k. 1) nodes (λ k below. one_of (k == node)),
        total_constant 1 nodes,
        one_is nodes node low,
      )

  -- If every node but the hole is a place, the places and the hole are all nodes.
  with_hole_all : ((node : ℕ) → node < nodes → node ≢ hole → (i : ℕ) × (i < rows) × (place i ≡ node))
      → (node : ℕ) → node < nodes → (i : ℕ) × (i < suc rows) × (with_hole hole place i ≡ node)
  with_hole_all all node low = ⊎_elim
      (λ here. (0, omega arith, sym here))
      (λ other. let found = all node low other in
      (suc found.0, (let below : found.0 < rows = found.1 in omega arith), found.2))
      (cases_eq node hole)

  -- Then the sum over the places, with the black hole, equals the sum over all nodes.
  pub all_have : rows + 1 ≡ nodes → (f : ℕ → ℕ) → total (λ i. f (place i)) rows + f hole ≡ total f nodes
  all_have all f = omega (
    arith,
    places_have f,
    covering f (with_hole hole place) (suc rows) nodes (with_hole_all (all_places all)),
    total_first (λ i. f (with_hole hole place i)) rows,
  )

  pub are_all : ((node : ℕ) → node < nodes → node ≢ hole → (i : ℕ) × (i < rows) × (place i ≡ node)) → rows + 1 ≡ nodes
  are_all all = omega (
    arith,
    places_few,
    covering (λ k. 1) (with_hole hole place) (suc rows) nodes (with_hole_all all),
    total_constant 1 (suc rows),
    total_constant 1 nodes,
  )

-- ---- ports
-- which number stands first makes no difference
turned : (a b : ℕ) → (a == b) ≡ (b == a)
turned a b = ⊎_elim
    (λ same. eq-eqb a b same ∙ sym (eq-eqb b a (sym same)))
    (λ other. ne_eqb a b other ∙ sym (ne_eqb b a (λ same. other (sym same))))
    (cases_eq a b)

module _ (net : Network) (labelled : IsPortLabelled net) where
  -- how many ports of the one node lead to the other
  abbrev pub ways : (node other : ℕ) → ℕ
  ways node other = total (λ port. one_if ((far_of net node port).0 == other)) (degree_of net node)

  -- where a port leads, a port leads back
  way_back : (node port : ℕ) → port < degree_of net node → 1 ≤ ways (far_of net node port).0 node
  way_back node port lt =
      let far = far_of net node port in
      let back : one_if ((far_of net far.0 far.1).0 == node) ≡ 1 =
      ap one_if (eq-eqb (far_of net far.0 far.1).0 node (ap (λ (end : ℕ × ℕ). end.0) (labelled.back node port lt))) in
      omega (
        arith,
        summand_within (λ q. one_if ((far_of net far.0 q).0 == node)) (degree_of net far.0) far.1
            (labelled.within node port lt),
      )

  -- as many lead there as lead back: one, or none
  pub as_many_back : (node other : ℕ) → ways node other ≤ ways other node
  as_many_back node other = ⊎_elim
      (λ none. omega (
        arith,
        none_pass leads (degree_of net node) (λ port lt.
            false_from_ne_true (leads port) (λ it_leads. omega (arith, way_from port lt it_leads))),
      ))
      (λ some. omega (arith, at_most_one leads (degree_of net node) one_leads))
      (lt_or_ge (ways other node) 1)
    where
      leads : ℕ → Bool
      leads port = (far_of net node port).0 == other

      leads_to : (port : ℕ) → leads port ≡ true → (far_of net node port).0 ≡ other
      leads_to port it_leads = eqb-true (far_of net node port).0 other it_leads

      way_from : (port : ℕ) → port < degree_of net node → leads port ≡ true → 1 ≤ ways other node
      way_from port lt it_leads = subst (λ far. 1 ≤ ways far node) (leads_to port it_leads) (way_back node port lt)

      one_leads : (i j : ℕ) → i < degree_of net node → j < degree_of net node → leads i ≡ true → leads j ≡ true → i ≡ j
      one_leads i j low below one same = labelled.simple node i j low below (leads_to i one ∙ sym (leads_to j same))

module _ (net : Network) (labelled : IsPortLabelled net) (hole : ℕ) (within : hole < nodes_of net) where
  -- how many ports of a node lead to the hole
  abbrev pub ways_in : (node : ℕ) → ℕ
  ways_in node = total (λ port. one_if ((far_of net node port).0 == hole)) (degree_of net node)

  pub ways_in_are : total ways_in (nodes_of net) ≡ degree_of net hole
  ways_in_are = omega (
    arith,
    total_same ways_in (ways net labelled hole) (nodes_of net) (λ node low. omega (
      arith,
      as_many_back net labelled node hole,
      as_many_back net labelled hole node,
    )),
    total_swapped (λ node port. one_if ((far_of net hole port).0 == node)) (degree_of net hole) (nodes_of net),
    total_same (λ port. total (λ node. one_if ((far_of net hole port).0 == node)) (nodes_of net)) (λ port. 1)
        (degree_of net hole) one_far,
    total_constant 1 (degree_of net hole),
  )
    where
      one_far : (port : ℕ) → port < degree_of net hole
          → total (λ node. one_if ((far_of net hole port).0 == node)) (nodes_of net) ≡ 1
      one_far port lt =
          let far = far_of net hole port in
          total_same (λ node. one_if (far.0 == node)) (λ node. one_if (node == far.0)) (nodes_of net)
          (λ node low. ap one_if (turned far.0 node))
          ∙ one_is (nodes_of net) far.0 (HasPort-node net far.0 far.1 (labelled.within hole port lt))

  -- No link of the black hole leads to itself.
  pub hole_has_none : ways_in hole ≡ 0
  hole_has_none = none_pass (λ port. (far_of net hole port).0 == hole) (degree_of net hole)
      (λ port lt. ne_eqb (far_of net hole port).0 hole (labelled.no_loop hole port lt))

  pub beside_is : ports_beside net hole + degree_of net hole ≡ total (degree_of net) (nodes_of net)
  beside_is = omega (arith, all_ports net hole within, sum_is_total length net [])
