-- A team that finds the black hole where it has four wide links names one of their ports. On one of the two networks
-- where the black hole has two links only, this port does not lead into it, and the team names it there too.
use Rattle.std.proofs.Common.{ℕ, ◌+◌, ◌-◌, ◌<◌, ◌≤◌, ◌≡◌, refl, sym, ap, ◌∙◌, subst, inl, inr, arith}
use Rattle.std.specs.Prelude.{◌≢◌}
use Rattle.std.proofs.lemmas.Bool.{cases_lt}
use Rattle.bhs_net.specs.declared.faults.TheConstants.{MAX_NODES}
use Rattle.bhs_net.specs.Network.{far_of}
use Rattle.bhs_model.specs.Worlds as worlds
use Rattle.bhs_model.specs.Setups.{network_of}
use Rattle.bhs_model.specs.Examples.{none_held}
use Rattle.bhs_schedules.specs.Strategies.{Strategies}
use Rattle.bhs_protocols.specs.LastWord.{FindsFor}
use Rattle.bhs_protocols.specs.Sizes.{Limits, played_on}
use Rattle.bhs_protocols.proofs.FindsLemmas.{solver_finds}
use Rattle.bhs_protocols_unmapped.specs.Unmapped.{FindsOnNetworks}
use Rattle.bhs_protocols_unmapped.specs.Ambiguity.{NobodyFinds, NobodySolves}
use Rattle.bhs_protocols_unmapped.proofs.Alike.{Far, over}
use Rattle.bhs_protocols_unmapped.proofs.Rims.{beside, beside_below}
use Rattle.bhs_protocols_unmapped.proofs.Struck.{IsLike, not_on_three}
use Rattle.bhs_protocols_unmapped.proofs.Shapes.{Shape, IsShape, degrees, leads, degrees_off}
use Rattle.bhs_protocols_unmapped.proofs.Shapes.{degrees_hub, degrees_three, leads_hub}
use Rattle.bhs_protocols_unmapped.proofs.Shapes.{leads_third, leads_ring, net_of, size, degree_is, far_is, far_beyond}
use Rattle.bhs_protocols_unmapped.proofs.Shapes.{Kind, Ring, Third, Hub, Hole, kind, is_network, few_links}
use Rattle.bhs_protocols_unmapped.proofs.Three.{star, star_spoke, star_hole, star_is, twin, IsTwin, twin_is, twin_spoke}
use Rattle.bhs_protocols_unmapped.proofs.Three.{not_a, not_b, left_is, right_is}

module _ (d rim : ℕ) (four : 4 ≤ d) (wide : d + 4 ≤ rim) (fits : rim + 2 ≤ MAX_NODES) where
  abbrev far : Shape → Far
  far shape = far_of (net_of d rim shape)

  abbrev star_shape : Shape
  star_shape = star d rim four wide

  abbrev star_kind : (node port : ℕ) → Type 0
  star_kind = Kind d rim four wide fits star_shape (star_is d rim four wide)

  module _ (a b e f : ℕ) (is : IsTwin d rim four wide a b e f) where
    abbrev shape : Shape
    shape = twin d rim four wide a b e f

    same_degree : (node : ℕ) → node ≢ rim + 1 → degrees d rim 4 node ≡ degrees d rim 2 node
    same_degree node off = degrees_off d rim 4 node off ∙ sym (degrees_off d rim 2 node off)

    same_leads : (node port : ℕ) → node ≢ rim + 1 → (leads d rim star_shape node port).0 ≢ rim + 1
        → star_kind node port → leads d rim star_shape node port ≡ leads d rim shape node port
    same_leads node port off free (Ring below small to) =
        to ∙ sym (leads_ring d rim shape node port below (λ same. omega (arith, same, small)))
    same_leads node port off free (Third below third to) = elim (cases_lt node d) [
      | inl h ↦ to ∙ star_spoke d rim four wide node h ∙ sym (twin_spoke d rim four wide a b e f is node h)
          ∙ sym (leads_third d rim shape node port (omega (arith, below, four, wide)) third)
      | inr h ↦ absurd (free (ap (λ (q : ℕ × ℕ). q.0) (to ∙ star_hole d rim four wide node h)))
    ]
    same_leads node port off free (Hub at small to) = to ∙ sym (leads_hub d rim shape node port at)
    same_leads node port off free (Hole at small to) = absurd (off at)

    like : IsLike (rim + 1) (degrees d rim 4) (degrees d rim 2) (far star_shape) (far shape)
    like = record {
      same = same_degree;
      ends = λ node port off has free.
          let star_far : far star_shape node port ≡ leads d rim star_shape node port =
          far_is d rim four wide star_shape node port has in
          star_far
          ∙ same_leads node port off (λ into. free (ap (λ (q : ℕ × ℕ). q.0) star_far ∙ into))
          (kind d rim four wide fits star_shape (star_is d rim four wide) node port has)
          ∙ sym (far_is d rim four wide shape node port (subst (λ (n : ℕ). port < n) (same_degree node off) has));
    }

    third_far : (node port : ℕ) → node < d + 4 → port ≡ 2 → (far shape node port).0 ≡ rim + 1
        → (shape.third node).0 ≡ rim + 1
    third_far node port below third into =
        let links : degrees d rim 2 node ≡ 3 = degrees_three d rim 2 node four wide below in
        sym (ap (λ (q : ℕ × ℕ). q.0) (far_is d rim four wide shape node port (omega (arith, links, third))
        ∙ leads_third d rim shape node port (omega (arith, below, four, wide)) third)) ∙ into

  abbrev left : Shape
  left = twin d rim four wide d (d + 2) (d + 1) (d + 3)

  abbrev right : Shape
  right = twin d rim four wide (d + 1) (d + 3) d (d + 2)

  none_by : (node port : ℕ) → star_kind node port → (leads d rim star_shape node port).0 ≡ rim + 1
      → (far left node port).0 ≡ rim + 1 → (far right node port).0 ≡ rim + 1 → ⊥
  none_by node port (Ring below small to) on_star on_left on_right =
      let near : beside rim node port < rim = beside_below rim node port (omega (arith, four, wide)) below small in
      let it : beside rim node port ≡ rim + 1 = sym (ap (λ (q : ℕ × ℕ). q.0) to) ∙ on_star in
      omega (arith, near, it)
  none_by node port (Third below third to) on_star on_left on_right = elim (cases_lt node d) [
    | inl h ↦
        let it : rim ≡ rim + 1 =
        sym (ap (λ (q : ℕ × ℕ). q.0) (to ∙ star_spoke d rim four wide node h)) ∙ on_star in
        omega (arith, it)
    | inr h ↦
        let into_left : (left.third node).0 ≡ rim + 1 =
        third_far d (d + 2) (d + 1) (d + 3) (left_is d rim four wide) node port below third on_left in
        let into_right : (right.third node).0 ≡ rim + 1 =
        third_far (d + 1) (d + 3) d (d + 2) (right_is d rim four wide) node port below third on_right in
        let zeroth : node ≢ d =
        not_a d rim four wide d (d + 2) (d + 1) (d + 3) (left_is d rim four wide) node into_left in
        let second : node ≢ d + 2 =
        not_b d rim four wide d (d + 2) (d + 1) (d + 3) (left_is d rim four wide) node into_left in
        let first : node ≢ d + 1 =
        not_a d rim four wide (d + 1) (d + 3) d (d + 2) (right_is d rim four wide) node into_right in
        let last : node ≢ d + 3 =
        not_b d rim four wide (d + 1) (d + 3) d (d + 2) (right_is d rim four wide) node into_right in
        omega (arith, h, below, zeroth, first, second, last)
  ]
  none_by node port (Hub at small to) on_star on_left on_right =
      let it : port ≡ rim + 1 = sym (ap (λ (q : ℕ × ℕ). q.0) to) ∙ on_star in omega (arith, it, small)
  none_by node port (Hole at small to) on_star on_left on_right =
      let it : d + port ≡ rim + 1 = sym (ap (λ (q : ℕ × ℕ). q.0) to) ∙ on_star in omega (arith, it, small, four, wide)

  -- no port leads into the black hole on all three
  none : (node port : ℕ) → (far star_shape node port).0 ≡ rim + 1 → (far left node port).0 ≡ rim + 1
      → (far right node port).0 ≡ rim + 1 → ⊥
  none node port on_star on_left on_right = elim (cases_lt port (degrees d rim 4 node)) [
    | inl h ↦ none_by node port (kind d rim four wide fits star_shape (star_is d rim four wide) node port h)
        (sym (ap (λ (q : ℕ × ℕ). q.0) (far_is d rim four wide star_shape node port h)) ∙ on_star) on_left on_right
    | inr h ↦
        let it : 0 ≡ rim + 1 =
        sym (ap (λ (q : ℕ × ℕ). q.0) (far_beyond d rim four wide star_shape node port h)) ∙ on_star in
        omega (arith, it)
  ]

  module _ (terms : Limits) (strategies : Strategies) (finds : FindsOnNetworks (rim + 2) d terms strategies) where
    -- The network of this file equals the network of the game.
    same_network : (shape : Shape) → network_of (net_of d rim shape)
        ≡ (record { nodes = rim + 2; degree = degrees d rim shape.holes; far = far shape })
    same_network shape i = record {
      nodes = size d rim shape i;
      degree = λ node. degree_is d rim four wide shape node i;
      far = far_of (net_of d rim shape);
    }

    found : (shape : Shape) → IsShape d rim shape
        → FindsFor (over (rim + 2) (degrees d rim shape.holes) (rim + 1) terms strategies (far shape)) (rim + 1)
    found shape is =
        subst (λ (net : worlds.Network). FindsFor (played_on net terms strategies 0 (rim + 1)) (rim + 1))
        (same_network shape)
        (finds (net_of d rim shape) 0 (rim + 1) (is_network d rim four wide fits shape is) (size d rim shape)
        (record {
          most = λ node. subst (λ (n : ℕ). n ≤ d) (sym (degree_is d rim four wide shape node))
              (few_links d rim four wide fits shape is node);
          attained = (rim, degree_is d rim four wide shape (rim) ∙ degrees_hub d rim shape.holes (rim) four wide refl);
        })
        (omega arith) (omega arith) (λ same. omega (arith, same)))

    pub impossible : ⊥
    impossible = not_on_three (rim + 2) (rim + 1) (λ same. omega (arith, same)) terms strategies
        (degrees d rim 4) (degrees d rim 2) (degrees d rim 2) (far star_shape) (far left) (far right)
        (like d (d + 2) (d + 1) (d + 3) (left_is d rim four wide))
        (like (d + 1) (d + 3) d (d + 2) (right_is d rim four wide)) none
        (found star_shape (star_is d rim four wide))
        (found left (twin_is d rim four wide d (d + 2) (d + 1) (d + 3) (left_is d rim four wide)))
        (found right (twin_is d rim four wide (d + 1) (d + 3) d (d + 2) (right_is d rim four wide)))

again : (nodes : ℕ) → 2 ≤ nodes → nodes ≡ nodes - 2 + 2
again nodes two = omega (arith, two)

pub nobody_finds : NobodyFinds
nobody_finds degree nodes terms strategies four wide fits finds =
    let same : nodes ≡ nodes - 2 + 2 = again nodes (omega (arith, wide)) in
    impossible degree (nodes - 2) four (omega (arith, wide)) (subst (λ (n : ℕ). n ≤ MAX_NODES) same fits)
    terms strategies (subst (λ (n : ℕ). FindsOnNetworks n degree terms strategies) same finds)

-- who solves finds
pub nobody_solves : NobodySolves
nobody_solves degree nodes terms strategies four wide fits solves =
    nobody_finds degree nodes terms strategies four wide fits
    (λ net home hole is nodes degrees_are home_within hole_within apart.
    solver_finds (played_on (network_of net) terms strategies home hole).world none_held terms.wakeups strategies hole
    (solves net home hole is nodes degrees_are home_within hole_within apart))
