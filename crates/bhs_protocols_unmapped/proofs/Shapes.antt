-- The three networks that a team without a map can't tell apart: a ring of rim nodes; a hub with links to the first d
-- of them; and the black hole, with links to all of the next four, or to two of them, and the other two have a link
-- between them.
use Rattle.std.proofs.Common.{ℕ, ◌+◌, ◌-◌, ◌<◌, ◌≤◌, ◌≡◌, List, [], ◌==◌}
use Rattle.std.proofs.Common.{length, map, get_or, refl, sym, ap, ◌∙◌, subst, if◌then◌else◌, nat_lt, inl, inr, arith}
use Rattle.std.specs.Prelude.{◌≢◌}
use Rattle.std.specs.List.{range_with_len}
use Rattle.std.proofs.Math.ListN.{get_or-eq_default}
use Rattle.std.proofs.lemmas.Bool.{cond-true, cond-false, lt-ltb, cases_lt, eq-eqb, ne_eqb}
use Rattle.std.proofs.lemmas.Bool.Decides.{eqb_tells}
use Rattle.std.proofs.lemmas.List.FromFn.{get_or-map-range_with_len, length-map-range_with_len}
use Rattle.bhs_net.specs.declared.faults.TheConstants.{MAX_NODES}
use Rattle.bhs_net.specs.Links.{End}
use Rattle.bhs_net.specs.Network.{Network, IsNetwork, IsPortLabelled, HasPort, Leads, nodes_of}
use Rattle.bhs_net.specs.Network.{row_of, degree_of, far_of}
use Rattle.bhs_net.specs.Paths.{IsPath, Without}
use Rattle.bhs_net.specs.Search.{ReachesAll}
use Rattle.bhs_net.proofs.Walks.{IsPath-more, Leads-back, joined_without, connected}
use Rattle.bhs_protocols.proofs.Cycles.{IsCycle, IsStart, some_start}
use Rattle.bhs_protocols_unmapped.proofs.Rims.{beside, beside_below, beside_moves, beside_apart, beside_back, by_role}
use Rattle.bhs_protocols_unmapped.proofs.Rims.{next_is}
use Rattle.bhs_protocols_unmapped.proofs.Rims.{before_is}
use Rattle.bhs_protocols_unmapped.proofs.Cycle.{not_below}

-- how many links the black hole has, where the third port of a node of the ring leads, and to which nodes the black
-- hole's ports lead
pub record Shape : Type 0 where
  pub holes : ℕ
  pub third : ℕ → ℕ × ℕ
  pub back : ℕ → ℕ

abbrev pub common : (d rim node : ℕ) → ℕ
common d rim node =
    if nat_lt node (d + 4) then 3 else (if nat_lt node (rim) then 2 else (if node == rim then d else 0))

unfoldable pub degrees : (d rim holes node : ℕ) → ℕ
degrees d rim holes node = if node == rim + 1 then holes else common d rim node

unfoldable pub leads : (d rim : ℕ) → Shape → (node port : ℕ) → ℕ × ℕ
leads d rim shape node port =
    if node == rim + 1
    then (shape.back port, 2)
    else (if node == rim
    then (port, 2)
    else (if port == 2 then shape.third node else (beside rim node port, 1 - port)))

-- ---- as they are computed

pub degrees_hole : (d rim holes node : ℕ) → node ≡ rim + 1 → degrees d rim holes node ≡ holes
unfolding degrees
degrees_hole d rim holes node is = cond-true (node == rim + 1) holes (common d rim node) (eq-eqb node (rim + 1) is)

pub degrees_off : (d rim holes node : ℕ) → node ≢ rim + 1 → degrees d rim holes node ≡ common d rim node
unfolding degrees
degrees_off d rim holes node off = cond-false (node == rim + 1) holes (common d rim node) (ne_eqb node (rim + 1) off)

common_three : (d rim node : ℕ) → node < d + 4 → common d rim node ≡ 3
common_three d rim node below = cond-true (nat_lt node (d + 4)) 3 _ (lt-ltb node (d + 4) below)

common_two : (d rim node : ℕ) → d + 4 ≤ node → node < rim → common d rim node ≡ 2
common_two d rim node after below = cond-false (nat_lt node (d + 4)) 3 _ (not_below node (d + 4) after)
    ∙ cond-true (nat_lt node (rim)) 2 _ (lt-ltb node (rim) below)

common_hub : (d rim node : ℕ) → 4 ≤ d → d + 4 ≤ rim → node ≡ rim → common d rim node ≡ d
common_hub d rim node four wide is =
    cond-false (nat_lt node (d + 4)) 3 _ (not_below node (d + 4) (omega (arith, is, four, wide)))
    ∙ cond-false (nat_lt node (rim)) 2 _ (not_below node (rim) (omega (arith, is)))
    ∙ cond-true (node == rim) d 0 (eq-eqb node (rim) is)

common_beyond : (d rim node : ℕ) → 4 ≤ d → d + 4 ≤ rim → rim + 1 ≤ node → common d rim node ≡ 0
common_beyond d rim node four wide beyond =
    cond-false (nat_lt node (d + 4)) 3 _ (not_below node (d + 4) (omega (arith, beyond, four, wide)))
    ∙ cond-false (nat_lt node (rim)) 2 _ (not_below node (rim) (omega (arith, beyond)))
    ∙ cond-false (node == rim) d 0 (ne_eqb node (rim) (λ same. omega (arith, same, beyond)))

pub degrees_three : (d rim holes node : ℕ) → 4 ≤ d → d + 4 ≤ rim → node < d + 4 → degrees d rim holes node ≡ 3
degrees_three d rim holes node four wide below =
    degrees_off d rim holes node (λ same. omega (arith, same, below, four, wide)) ∙ common_three d rim node below

pub degrees_two : (d rim holes node : ℕ) → d + 4 ≤ node → node < rim → degrees d rim holes node ≡ 2
degrees_two d rim holes node after below =
    degrees_off d rim holes node (λ same. omega (arith, same, below)) ∙ common_two d rim node after below

pub degrees_hub : (d rim holes node : ℕ) → 4 ≤ d → d + 4 ≤ rim → node ≡ rim → degrees d rim holes node ≡ d
degrees_hub d rim holes node four wide is =
    degrees_off d rim holes node (λ same. omega (arith, same, is)) ∙ common_hub d rim node four wide is

pub degrees_beyond : (d rim holes node : ℕ) → 4 ≤ d → d + 4 ≤ rim → rim + 2 ≤ node → degrees d rim holes node ≡ 0
degrees_beyond d rim holes node four wide beyond =
    degrees_off d rim holes node (λ same. omega (arith, same, beyond))
    ∙ common_beyond d rim node four wide (omega (arith, beyond))

pub leads_hole : (d rim : ℕ) (shape : Shape) (node port : ℕ) → node ≡ rim + 1
    → leads d rim shape node port ≡ (shape.back port, 2)
unfolding leads
leads_hole d rim shape node port is = cond-true (node == rim + 1) _ _ (eq-eqb node (rim + 1) is)

pub leads_hub : (d rim : ℕ) (shape : Shape) (node port : ℕ) → node ≡ rim → leads d rim shape node port ≡ (port, 2)
unfolding leads
leads_hub d rim shape node port is =
    cond-false (node == rim + 1) _ _ (ne_eqb node (rim + 1) (λ same. omega (arith, same, is)))
    ∙ cond-true (node == rim) _ _ (eq-eqb node (rim) is)

pub leads_third : (d rim : ℕ) (shape : Shape) (node port : ℕ) → node < rim → port ≡ 2
    → leads d rim shape node port ≡ shape.third node
unfolding leads
leads_third d rim shape node port below is =
    cond-false (node == rim + 1) _ _ (ne_eqb node (rim + 1) (λ same. omega (arith, same, below)))
    ∙ cond-false (node == rim) _ _ (ne_eqb node (rim) (λ same. omega (arith, same, below)))
    ∙ cond-true (port == 2) _ _ (eq-eqb port 2 is)

pub leads_ring : (d rim : ℕ) (shape : Shape) (node port : ℕ) → node < rim → port ≢ 2
    → leads d rim shape node port ≡ (beside rim node port, 1 - port)
unfolding leads
leads_ring d rim shape node port below off =
    cond-false (node == rim + 1) _ _ (ne_eqb node (rim + 1) (λ same. omega (arith, same, below)))
    ∙ cond-false (node == rim) _ _ (ne_eqb node (rim) (λ same. omega (arith, same, below)))
    ∙ cond-false (port == 2) _ _ (ne_eqb port 2 off)

-- ---- the network of a file

unfoldable pub row_in : (d rim : ℕ) → Shape → (node : ℕ) → List End
row_in d rim shape node = map (leads d rim shape node) (range_with_len 0 (degrees d rim shape.holes node))

unfoldable pub net_of : (d rim : ℕ) → Shape → Network
net_of d rim shape = map (row_in d rim shape) (range_with_len 0 (rim + 2))

pub size : (d rim : ℕ) (shape : Shape) → nodes_of (net_of d rim shape) ≡ rim + 2
unfolding net_of
size d rim shape = length-map-range_with_len (row_in d rim shape) 0 (rim + 2)

row_is : (d rim : ℕ) (shape : Shape) (node : ℕ) → node < rim + 2
    → row_of (net_of d rim shape) node
    ≡ map (leads d rim shape node) (range_with_len 0 (degrees d rim shape.holes node))
unfolding net_of row_in
row_is d rim shape node below =
    get_or-map-range_with_len (row_in d rim shape) 0 (rim + 2) node node [] below (omega arith)

pub degree_is : (d rim : ℕ) (four : 4 ≤ d) (wide : d + 4 ≤ rim) (shape : Shape) (node : ℕ)
    → degree_of (net_of d rim shape) node ≡ degrees d rim shape.holes node
degree_is d rim four wide shape node = elim (cases_lt node (rim + 2)) [
  | inl h ↦ ap (λ (row : List End). length row) (row_is d rim shape node h)
      ∙ length-map-range_with_len (leads d rim shape node) 0 (degrees d rim shape.holes node)
  | inr h ↦
      let beyond : nodes_of (net_of d rim shape) ≤ node = subst (λ (n : ℕ). n ≤ node) (sym (size d rim shape)) h in
      ap (λ (row : List End). length row) (get_or-eq_default (net_of d rim shape) [] beyond)
      ∙ sym (degrees_beyond d rim shape.holes node four wide h)
]

pub far_is : (d rim : ℕ) (four : 4 ≤ d) (wide : d + 4 ≤ rim) (shape : Shape) (node port : ℕ)
    → port < degrees d rim shape.holes node
    → far_of (net_of d rim shape) node port ≡ leads d rim shape node port
far_is d rim four wide shape node port has = elim (cases_lt node (rim + 2)) [
  | inl h ↦ ap (λ (row : List End). get_or row port (0, 0)) (row_is d rim shape node h)
      ∙ get_or-map-range_with_len (leads d rim shape node) 0 (degrees d rim shape.holes node) port port (0, 0) has
      (omega arith)
  | inr h ↦ absurd (let none : degrees d rim shape.holes node ≡ 0 = degrees_beyond d rim shape.holes node four wide h in
      omega (arith, none, has))
]

-- no port, no end
pub far_beyond : (d rim : ℕ) (four : 4 ≤ d) (wide : d + 4 ≤ rim) (shape : Shape) (node port : ℕ)
    → degrees d rim shape.holes node ≤ port
    → far_of (net_of d rim shape) node port ≡ (0, 0)
far_beyond d rim four wide shape node port none =
    get_or-eq_default (row_of (net_of d rim shape) node) (0, 0)
    (subst (λ (n : ℕ). n ≤ port) (sym (degree_is d rim four wide shape node)) none)

-- ---- what makes a shape good

-- the third link of a node of the ring leads to a port that leads back, and to no neighbour
pub record IsThird (d rim : ℕ) (shape : Shape) (node : ℕ) : Type 0 where
  pub has : (shape.third node).1 < degrees d rim shape.holes (shape.third node).0
  pub back : leads d rim shape (shape.third node).0 (shape.third node).1 ≡ (node, 2)
  pub apart : (shape.third node).0 ≢ node
  pub off : (role : ℕ) → role < 2 → beside rim node role ≢ (shape.third node).0

pub record IsShape (d rim : ℕ) (shape : Shape) : Type 0 where
  pub third : (node : ℕ) → node < d + 4 → IsThird d rim shape node
  pub spoke : (node : ℕ) → node < d → shape.third node ≡ (rim, node)
  pub hole : (port : ℕ) → port < shape.holes → shape.back port < d + 4
  pub hole_back : (port : ℕ) → port < shape.holes → shape.third (shape.back port) ≡ (rim + 1, port)
  pub two : 2 ≤ shape.holes
  pub most : shape.holes ≤ 4

module _ (d rim : ℕ) (four : 4 ≤ d) (wide : d + 4 ≤ rim) (fits : rim + 2 ≤ MAX_NODES) (shape : Shape)
    (is : IsShape d rim shape) where
  abbrev net : Network
  net = net_of d rim shape

  abbrev links : ℕ → ℕ
  links = degrees d rim shape.holes

  pub data Kind (node port : ℕ) : Type 0 where
    Ring : node < rim → port < 2 → leads d rim shape node port ≡ (beside rim node port, 1 - port) → Kind node port
    Third : node < d + 4 → port ≡ 2 → leads d rim shape node port ≡ shape.third node → Kind node port
    Hub : node ≡ rim → port < d → leads d rim shape node port ≡ (port, 2) → Kind node port
    Hole : node ≡ rim + 1 → port < shape.holes → leads d rim shape node port ≡ (shape.back port, 2) → Kind node port

  pub kind : (node port : ℕ) → port < links node → Kind node port
  kind node port has = elim (cases_lt node (d + 4)) [
    | inl h ↦
        let is_three : links node ≡ 3 = degrees_three d rim shape.holes node four wide h in
        let ring : node < rim = omega (arith, h, four, wide) in
        elim (eqb_tells port 2) [
          | inl k ↦ Third h k.1 (leads_third d rim shape node port ring k.1)
          | inr k ↦ let apart : port ≢ 2 = k.1 in
              Ring ring (omega (arith, has, is_three, apart)) (leads_ring d rim shape node port ring k.1)
        ]
    | inr h ↦ elim (cases_lt node (rim)) [
      | inl k ↦
          let is_two : links node ≡ 2 = degrees_two d rim shape.holes node h k in
          let small : port < 2 = omega (arith, has, is_two) in
          Ring k small (leads_ring d rim shape node port k (λ same. omega (arith, same, small)))
      | inr k ↦ elim (eqb_tells node (rim)) [
        | inl m ↦
            let is_hub : links node ≡ d = degrees_hub d rim shape.holes node four wide m.1 in
            Hub m.1 (omega (arith, has, is_hub)) (leads_hub d rim shape node port m.1)
        | inr m ↦ elim (eqb_tells node (rim + 1)) [
          | inl o ↦ Hole o.1 (subst (λ (n : ℕ). port < n) (degrees_hole d rim shape.holes node o.1) has)
              (leads_hole d rim shape node port o.1)
          | inr o ↦ absurd (let not_hub : node ≢ rim = m.1 in let not_hole : node ≢ rim + 1 = o.1 in
              let none : links node ≡ 0 =
              degrees_beyond d rim shape.holes node four wide (omega (arith, k, not_hub, not_hole)) in
              omega (arith, none, has))
        ]
      ]
    ]
  ]

  -- the ports that there are
  ring_has : (node port : ℕ) → node < rim → port < 2 → port < links node
  ring_has node port below small = elim (cases_lt node (d + 4)) [
    | inl h ↦ let it : links node ≡ 3 = degrees_three d rim shape.holes node four wide h in omega (arith, it, small)
    | inr h ↦ let it : links node ≡ 2 = degrees_two d rim shape.holes node h below in omega (arith, it, small)
  ]

  third_has : (node : ℕ) → node < d + 4 → 2 < links node
  third_has node below =
      let it : links node ≡ 3 = degrees_three d rim shape.holes node four wide below in omega (arith, it)

  hub_has : (node port : ℕ) → node ≡ rim → port < d → port < links node
  hub_has node port at small = subst (λ (n : ℕ). port < n) (sym (degrees_hub d rim shape.holes node four wide at)) small

  hole_has : (node port : ℕ) → node ≡ rim + 1 → port < shape.holes → port < links node
  hole_has node port at small = subst (λ (n : ℕ). port < n) (sym (degrees_hole d rim shape.holes node at)) small

  -- ---- it is port-labelled

  leads_within : (node port : ℕ) → Kind node port
      → (leads d rim shape node port).1 < links (leads d rim shape node port).0
  leads_within node port (Ring below small far) =
      subst (λ (e : ℕ × ℕ). e.1 < links e.0) (sym far)
      (ring_has (beside rim node port) (1 - port) (beside_below rim node port (omega (arith, four, wide)) below small)
      (omega arith))
  leads_within node port (Third below third far) =
      subst (λ (e : ℕ × ℕ). e.1 < links e.0) (sym far) (is.third node below).has
  leads_within node port (Hub at small far) =
      subst (λ (e : ℕ × ℕ). e.1 < links e.0) (sym far) (third_has port (omega (arith, small)))
  leads_within node port (Hole at small far) =
      subst (λ (e : ℕ × ℕ). e.1 < links e.0) (sym far) (third_has (shape.back port) (is.hole port small))

  leads_there : (node port : ℕ) → Kind node port
      → leads d rim shape (leads d rim shape node port).0 (leads d rim shape node port).1 ≡ (node, port)
  leads_there node port (Ring below small far) =
      let there : ℕ = beside rim node port in
      let on_ring : there < rim = beside_below rim node port (omega (arith, four, wide)) below small in
      let twice : 1 - (1 - port) ≡ port = omega (arith, small) in
      let again : beside rim there (1 - port) ≡ node =
      beside_back rim node port (omega (arith, four, wide)) below small in
      ap (λ (e : ℕ × ℕ). leads d rim shape e.0 e.1) far
      ∙ leads_ring d rim shape there (1 - port) on_ring (λ same. omega (arith, same))
      ∙ (λ i. (again i, twice i))
  leads_there node port (Third below third far) =
      ap (λ (e : ℕ × ℕ). leads d rim shape e.0 e.1) far ∙ (is.third node below).back
      ∙ (λ i. (node, sym third i))
  leads_there node port (Hub at small far) =
      ap (λ (e : ℕ × ℕ). leads d rim shape e.0 e.1) far
      ∙ leads_third d rim shape port 2 (omega (arith, small)) refl
      ∙ is.spoke port small ∙ (λ i. (sym at i, port))
  leads_there node port (Hole at small far) =
      let back : shape.back port < d + 4 = is.hole port small in
      ap (λ (e : ℕ × ℕ). leads d rim shape e.0 e.1) far
      ∙ leads_third d rim shape (shape.back port) 2 (omega (arith, back, four, wide)) refl
      ∙ is.hole_back port small ∙ (λ i. (sym at i, port))

  leads_on : (node port : ℕ) → Kind node port → (leads d rim shape node port).0 ≢ node
  leads_on node port (Ring below small far) same =
      beside_moves rim node port (omega (arith, four, wide)) below small (sym (ap (λ (e : ℕ × ℕ). e.0) far) ∙ same)
  leads_on node port (Third below third far) same =
      (is.third node below).apart (sym (ap (λ (e : ℕ × ℕ). e.0) far) ∙ same)
  leads_on node port (Hub at small far) same =
      let it : port ≡ node = sym (ap (λ (e : ℕ × ℕ). e.0) far) ∙ same in omega (arith, it, at, small)
  leads_on node port (Hole at small far) same =
      let back : shape.back port < d + 4 = is.hole port small in
      let it : shape.back port ≡ node =
      sym (ap (λ (e : ℕ × ℕ). e.0) far) ∙ same in omega (arith, it, at, back, four, wide)

  same_role : (node one other : ℕ) → node < rim → one < 2 → other < 2 → beside rim node one ≡ beside rim node other
      → one ≡ other
  same_role node one other below one_small other_small =
      let two : 3 ≤ rim = omega (arith, four, wide) in
      by_role (λ r. beside rim node r ≡ beside rim node other → r ≡ other) one one_small
      (by_role (λ r. beside rim node 0 ≡ beside rim node r → 0 ≡ r) other other_small (λ same. refl)
      (λ same. absurd (beside_apart rim node two below same)))
      (by_role (λ r. beside rim node 1 ≡ beside rim node r → 1 ≡ r) other other_small
      (λ same. absurd (beside_apart rim node two below (sym same))) (λ same. refl))

  leads_simple : (node port other : ℕ) → Kind node port → Kind node other
      → (leads d rim shape node port).0 ≡ (leads d rim shape node other).0 → port ≡ other
  leads_simple node port other (Ring below small far) (Ring below_too small_too far_too) same =
      same_role node port other below small small_too
      (sym (ap (λ (e : ℕ × ℕ). e.0) far) ∙ same ∙ ap (λ (e : ℕ × ℕ). e.0) far_too)
  leads_simple node port other (Ring below small far) (Third below_too third far_too) same =
      absurd ((is.third node below_too).off port small
      (sym (ap (λ (e : ℕ × ℕ). e.0) far) ∙ same ∙ ap (λ (e : ℕ × ℕ). e.0) far_too))
  leads_simple node port other (Ring below small far) (Hub at small_too far_too) same =
      absurd (omega (arith, below, at))
  leads_simple node port other (Ring below small far) (Hole at small_too far_too) same =
      absurd (omega (arith, below, at))
  leads_simple node port other (Third below third far) (Ring below_too small far_too) same =
      absurd ((is.third node below).off other small
      (sym (ap (λ (e : ℕ × ℕ). e.0) far_too) ∙ sym same ∙ ap (λ (e : ℕ × ℕ). e.0) far))
  leads_simple node port other (Third below third far) (Third below_too third_too far_too) same = third ∙ sym third_too
  leads_simple node port other (Third below third far) (Hub at small far_too) same =
      absurd (omega (arith, below, at, four, wide))
  leads_simple node port other (Third below third far) (Hole at small far_too) same =
      absurd (omega (arith, below, at, four, wide))
  leads_simple node port other (Hub at small far) (Hub at_too small_too far_too) same =
      sym (ap (λ (e : ℕ × ℕ). e.0) far) ∙ same ∙ ap (λ (e : ℕ × ℕ). e.0) far_too
  leads_simple node port other (Hub at small far) (Ring below small_too far_too) same =
      absurd (omega (arith, below, at))
  leads_simple node port other (Hub at small far) (Third below third far_too) same =
      absurd (omega (arith, below, at, four, wide))
  leads_simple node port other (Hub at small far) (Hole at_too small_too far_too) same =
      absurd (omega (arith, at_too, at))
  leads_simple node port other (Hole at small far) (Hole at_too small_too far_too) same =
      let backs : shape.back port ≡ shape.back other =
      sym (ap (λ (e : ℕ × ℕ). e.0) far) ∙ same ∙ ap (λ (e : ℕ × ℕ). e.0) far_too in
      ap (λ (e : ℕ × ℕ). e.1) (sym (is.hole_back port small) ∙ ap shape.third backs ∙ is.hole_back other small_too)
  leads_simple node port other (Hole at small far) (Ring below small_too far_too) same =
      absurd (omega (arith, below, at))
  leads_simple node port other (Hole at small far) (Third below third far_too) same =
      absurd (omega (arith, below, at, four, wide))
  leads_simple node port other (Hole at small far) (Hub at_too small_too far_too) same =
      absurd (omega (arith, at_too, at))

  abbrev real : (node port : ℕ) → port < degree_of net node → port < links node
  real node port has = subst (λ (n : ℕ). port < n) (degree_is d rim four wide shape node) has

  abbrev far : (node port : ℕ) → port < degree_of net node → far_of net node port ≡ leads d rim shape node port
  far node port has = far_is d rim four wide shape node port (real node port has)

  pub labelled : IsPortLabelled net
  labelled = record {
    few = let nodes : nodes_of net ≡ rim + 2 = size d rim shape in
        let enough : 3 ≤ nodes_of net = omega (arith, nodes, four, wide) in enough;
    many = subst (λ (n : ℕ). n ≤ MAX_NODES) (sym (size d rim shape)) fits;
    within = λ node port has. subst (λ (e : End). HasPort net e) (sym (far node port has))
        (subst (λ (n : ℕ). (leads d rim shape node port).1 < n)
        (sym (degree_is d rim four wide shape (leads d rim shape node port).0))
        (leads_within node port (kind node port (real node port has))));
    back = λ node port has. ap (λ (e : End). far_of net e.0 e.1) (far node port has)
        ∙ far_is d rim four wide shape (leads d rim shape node port).0 (leads d rim shape node port).1
        (leads_within node port (kind node port (real node port has)))
        ∙ leads_there node port (kind node port (real node port has));
    no_loop = λ node port has same. leads_on node port (kind node port (real node port has))
        (sym (ap (λ (e : End). e.0) (far node port has)) ∙ same);
    simple = λ node port other has has_too same. leads_simple node port other (kind node port (real node port has))
        (kind node other (real node other has_too))
        (sym (ap (λ (e : End). e.0) (far node port has)) ∙ same ∙ ap (λ (e : End). e.0) (far node other has_too));
  }

  -- ---- it is joined

  leads_by : (node port there : ℕ) → port < links node → (leads d rim shape node port).0 ≡ there → Leads net node there
  leads_by node port there has to = (
    port,
    subst (λ (n : ℕ). port < n) (sym (degree_is d rim four wide shape node)) has,
    ap (λ (e : End). e.0) (far_is d rim four wide shape node port has) ∙ to,
  )

  ring_leads : (node role there : ℕ) → node < rim → role < 2 → beside rim node role ≡ there → Leads net node there
  ring_leads node role there below small to =
      leads_by node role there (ring_has node role below small)
      (ap (λ (e : ℕ × ℕ). e.0) (leads_ring d rim shape node role below (λ same. omega (arith, same, small))) ∙ to)

  leads_next : (node : ℕ) → node + 1 < rim → Leads net node (node + 1)
  leads_next node below = elim (next_is rim node) [
    | inl h ↦ absurd (omega (arith, h.0, below))
    | inr h ↦ ring_leads node 0 (node + 1) (omega (arith, below)) (omega arith) h.1
  ]

  leads_before : (node : ℕ) → node + 1 < rim → Leads net (node + 1) node
  leads_before node below = elim (before_is rim (node + 1)) [
    | inl h ↦ absurd (omega (arith, h.0))
    | inr h ↦
        let it : beside rim (node + 1) 1 ≡ node = h.1 ∙ (let same : node + 1 - 1 ≡ node = omega arith in same) in
        ring_leads (node + 1) 1 node below (omega arith) it
  ]

  leads_round : Leads net 0 (rim - 1)
  leads_round = elim (before_is rim 0) [
    | inl h ↦ ring_leads 0 1 (rim - 1) (omega (arith, four, wide)) (omega arith) h.1
    | inr h ↦ absurd (h.0 refl)
  ]

  cycle : IsCycle net (rim)
  cycle = record { three = omega (arith, four, wide); onward = leads_next; back = leads_before; around = leads_round }

  -- a node off the ring has links to two nodes of it
  record HasTwo (node : ℕ) : Type 0 where
    pub one : ℕ
    pub two : ℕ
    pub one_on : one < rim
    pub two_on : two < rim
    pub apart : one ≢ two
    pub to_one : Leads net node one
    pub to_two : Leads net node two

  has_two : (node : ℕ) → rim ≤ node → node < rim + 2 → HasTwo node
  has_two node after before = elim (eqb_tells node (rim)) [
    | inl h ↦ record {
      one = 0;
      two = 1;
      one_on = omega (arith, four, wide);
      two_on = omega (arith, four, wide);
      apart = λ same. omega (arith, same);
      to_one = leads_by node 0 0 (hub_has node 0 h.1 (omega (arith, four, wide)))
          (ap (λ (e : ℕ × ℕ). e.0) (leads_hub d rim shape node 0 h.1));
      to_two = leads_by node 1 1 (hub_has node 1 h.1 (omega (arith, four, wide)))
          (ap (λ (e : ℕ × ℕ). e.0) (leads_hub d rim shape node 1 h.1));
    }
    | inr h ↦
        let off : node ≢ rim = h.1 in
        let at : node ≡ rim + 1 = omega (arith, after, before, off) in
        let two : 2 ≤ shape.holes = is.two in
        let zeroth : 0 < shape.holes = omega (arith, two) in
        let first : 1 < shape.holes = omega (arith, two) in
        let one_small : shape.back 0 < d + 4 = is.hole 0 zeroth in
        let two_small : shape.back 1 < d + 4 = is.hole 1 first in
        record {
          one = shape.back 0;
          two = shape.back 1;
          one_on = omega (arith, one_small, four, wide);
          two_on = omega (arith, two_small, four, wide);
          apart = λ same.
              let ports : 0 ≡ 1 = ap (λ (e : ℕ × ℕ). e.1)
              (sym (is.hole_back 0 zeroth) ∙ ap shape.third same ∙ is.hole_back 1 first) in omega (arith, ports);
          to_one = leads_by node 0 (shape.back 0) (hole_has node 0 at zeroth)
              (ap (λ (e : ℕ × ℕ). e.0) (leads_hole d rim shape node 0 at));
          to_two = leads_by node 1 (shape.back 1) (hole_has node 1 at first)
              (ap (λ (e : ℕ × ℕ). e.0) (leads_hole d rim shape node 1 at));
        }
  ]

  module _ (cut : ℕ) where
    abbrev Step : ℕ → ℕ → Type 0
    Step = Without cut (Leads net)

    from : IsStart net (rim) cut
    from = some_start net (rim) cycle cut

    reached : (node : ℕ) → node ≢ cut → HasTwo node → IsPath Step from.start node
    reached node off it = elim (eqb_tells it.one cut) [
      | inr h ↦ by_link it.one it.one_on h.1 it.to_one
      | inl h ↦ by_link it.two it.two_on (λ same. it.apart (h.1 ∙ sym same)) it.to_two
    ]
      where
        by_link : (there : ℕ) → there < rim → there ≢ cut → Leads net node there → IsPath Step from.start node
        by_link there on apart to = IsPath-more Step from.start there node (from.reaches there on apart)
            (Leads-back net labelled node there to, apart, off)

    reaches_all : ReachesAll net from.start cut
    reaches_all node below off = elim (cases_lt node (rim)) [
      | inl h ↦ from.reaches node h off
      | inr h ↦ reached node off (has_two node h (subst (λ (n : ℕ). node < n) (size d rim shape) below))
    ]

  pub is_network : IsNetwork net
  is_network = record {
    labelled = labelled;
    connected = connected net labelled (from (rim + 2)).start (rim + 2)
        (subst (λ (n : ℕ). n ≤ rim + 2) (sym (size d rim shape)) (omega arith)) (reaches_all (rim + 2));
    biconnected = λ cut below. joined_without net labelled (from cut).start cut (reaches_all cut);
  }

  pub few_links : (node : ℕ) → degrees d rim shape.holes node ≤ d
  few_links node = elim (cases_lt node (d + 4)) [
    | inl h ↦ let it : links node ≡ 3 = degrees_three d rim shape.holes node four wide h in
        let n : links node ≤ d = omega (arith, it, four, wide) in n
    | inr h ↦ elim (cases_lt node (rim)) [
      | inl k ↦ let it : links node ≡ 2 = degrees_two d rim shape.holes node h k in
          let n : links node ≤ d = omega (arith, it, four, wide) in n
      | inr k ↦ elim (eqb_tells node (rim)) [
        | inl m ↦ let it : links node ≡ d = degrees_hub d rim shape.holes node four wide m.1 in
            let n : links node ≤ d = omega (arith, it) in n
        | inr m ↦ elim (eqb_tells node (rim + 1)) [
          | inl o ↦ let it : links node ≡ shape.holes = degrees_hole d rim shape.holes node o.1 in
              let few : shape.holes ≤ 4 = is.most in let n : links node ≤ d = omega (arith, it, few, four, wide) in n
          | inr o ↦ let not_hub : node ≢ rim = m.1 in let not_hole : node ≢ rim + 1 = o.1 in
              let it : links node ≡ 0 =
              degrees_beyond d rim shape.holes node four wide (omega (arith, k, not_hub, not_hole)) in
              let n : links node ≤ d = omega (arith, it) in n
        ]
      ]
    ]
  ]
