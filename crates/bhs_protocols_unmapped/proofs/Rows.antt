-- A member of the family as a network of a file.
use Rattle.std.proofs.Common.{ℕ, zero, suc, ◌+◌, ◌-◌, ◌*◌, ◌<◌, ◌≤◌, ◌≡◌, List, [], length, map, sum_by, get_or}
use Rattle.std.proofs.Common.{refl, sym, ap, ◌∙◌, subst, if◌then◌else◌, nat_lt, inl, inr, arith}
use Rattle.std.specs.Prelude.{◌≢◌}
use Rattle.std.specs.List.{range_with_len}
use Rattle.std.proofs.Math.ListN.{get_or-eq_default}
use Rattle.std.proofs.lemmas.Bool.{cond-true, cond-false, lt-ltb, cases_lt}
use Rattle.std.proofs.lemmas.Bool.Decides.{eqb_tells}
use Rattle.std.proofs.lemmas.List.FromFn.{get_or-map-range_with_len, length-map-range_with_len}
use Rattle.std.proofs.lemmas.List.FromFn.{sum_by-map-range_with_len_more}
use Rattle.bhs_net.specs.declared.faults.TheConstants.{MAX_NODES}
use Rattle.bhs_net.specs.Links.{End}
use Rattle.bhs_net.specs.Network.{Network, IsPortLabelled, HasPort, Leads, nodes_of, row_of, degree_of, far_of}
use Rattle.bhs_net.specs.Network.{ports_of}
use Rattle.bhs_protocols_unmapped.proofs.Cycle.{Member, IsMember, beside, beside_below, beside_moves, beside_apart}
use Rattle.bhs_protocols_unmapped.proofs.Cycle.{by_role}
use Rattle.bhs_protocols_unmapped.proofs.Cycle.{hub_end, slot_at, link_on, spoke_of, leads, leads_on, leads_off}
use Rattle.bhs_protocols_unmapped.proofs.Cycle.{leads_back}
use Rattle.bhs_protocols_unmapped.proofs.Cycle.{link_back, not_below, IsHubEnd, hub_end_is, IsSlotAt, slot_at_is}
use Rattle.bhs_protocols_unmapped.proofs.Game.{degrees}

row_in : (d : ℕ) → Member → (node : ℕ) → List End
row_in d member node = map (leads d member node) (range_with_len 0 (degrees d node))

pub net_of : (d : ℕ) → Member → Network
net_of d member = map (row_in d member) (range_with_len 0 (2 * d + 2))

pub size : (d : ℕ) (member : Member) → nodes_of (net_of d member) ≡ 2 * d + 2
unfolding net_of
size d member = length-map-range_with_len (row_in d member) 0 (2 * d + 2)

row_is : (d : ℕ) (member : Member) (node : ℕ) → node < 2 * d + 2
    → row_of (net_of d member) node ≡ map (leads d member node) (range_with_len 0 (degrees d node))
unfolding net_of row_in
row_is d member node below = get_or-map-range_with_len (row_in d member) 0 (2 * d + 2) node node [] below (omega arith)

pub degrees_cycle : (d node : ℕ) → node < 2 * d → degrees d node ≡ 3
degrees_cycle d node below =
    cond-true (nat_lt node (2 * d)) 3 (if nat_lt node (2 * d + 2) then d else 0) (lt-ltb node (2 * d) below)

pub degrees_hub : (d node : ℕ) → 2 * d ≤ node → node < 2 * d + 2 → degrees d node ≡ d
degrees_hub d node after before =
    cond-false (nat_lt node (2 * d)) 3 (if nat_lt node (2 * d + 2) then d else 0) (not_below node (2 * d) after)
    ∙ cond-true (nat_lt node (2 * d + 2)) d 0 (lt-ltb node (2 * d + 2) before)

pub degrees_beyond : (d node : ℕ) → 2 * d + 2 ≤ node → degrees d node ≡ 0
degrees_beyond d node beyond =
    cond-false (nat_lt node (2 * d)) 3 (if nat_lt node (2 * d + 2) then d else 0)
    (not_below node (2 * d) (omega (arith, beyond)))
    ∙ cond-false (nat_lt node (2 * d + 2)) d 0 (not_below node (2 * d + 2) beyond)

pub degree_is : (d : ℕ) (member : Member) (node : ℕ) → degree_of (net_of d member) node ≡ degrees d node
degree_is d member node = elim (cases_lt node (2 * d + 2)) [
  | inl h ↦ ap (λ (row : List End). length row) (row_is d member node h)
      ∙ length-map-range_with_len (leads d member node) 0 (degrees d node)
  | inr h ↦
      let beyond : nodes_of (net_of d member) ≤ node = subst (λ (n : ℕ). n ≤ node) (sym (size d member)) h in
      ap (λ (row : List End). length row) (get_or-eq_default (net_of d member) [] beyond)
      ∙ sym (degrees_beyond d node h)
]

pub far_is : (d : ℕ) (member : Member) (node port : ℕ) → node < 2 * d + 2 → port < degrees d node
    → far_of (net_of d member) node port ≡ leads d member node port
far_is d member node port below has =
    ap (λ (row : List End). get_or row port (0, 0)) (row_is d member node below)
    ∙ get_or-map-range_with_len (leads d member node) 0 (degrees d node) port port (0, 0) has (omega arith)

-- ---- how many ports the nodes have together

ports_below : (d : ℕ) → Member → (nodes : ℕ) → ℕ
ports_below d member nodes = sum_by length (map (row_in d member) (range_with_len 0 nodes))

one_more : (d : ℕ) (member : Member) (node : ℕ)
    → ports_below d member (suc node) ≡ ports_below d member node + degrees d node
unfolding ports_below row_in
one_more d member node =
    ap (ports_below d member) (let next : suc node ≡ node + 1 = omega arith in next)
    ∙ sum_by-map-range_with_len_more length (row_in d member) 0 node node (omega arith)
    ∙ ap (λ (n : ℕ). ports_below d member node + n) (length-map-range_with_len (leads d member node) 0 (degrees d node))

ports_of_cycle : (d : ℕ) (member : Member) (nodes : ℕ) → nodes ≤ 2 * d → ports_below d member nodes ≡ 3 * nodes
unfolding ports_below
ports_of_cycle d member zero most = refl
ports_of_cycle d member (suc node) most =
    omega (
      arith,
      one_more d member node,
      ports_of_cycle d member node (omega (arith, most)),
      degrees_cycle d node (omega (arith, most)),
    )

-- 3 for each of 2 * d nodes of the cycle, and d for each of the two hubs
pub ports_are : (d : ℕ) (member : Member) → ports_of (net_of d member) ≡ 2 * (4 * d)
unfolding net_of ports_below
ports_are d member =
    let cycle : ports_below d member (2 * d) ≡ 3 * (2 * d) = ports_of_cycle d member (2 * d) (omega arith) in
    let all : ports_of (net_of d member) ≡ ports_below d member (suc (suc (2 * d))) =
    ap (ports_below d member) (let size : 2 * d + 2 ≡ suc (suc (2 * d)) = omega arith in size) in
    omega (
      arith,
      cycle,
      all,
      one_more d member (2 * d),
      one_more d member (suc (2 * d)),
      degrees_hub d (2 * d) (omega arith) (omega arith),
      degrees_hub d (suc (2 * d)) (omega arith) (omega arith),
    )

module _ (d : ℕ) (three : 3 ≤ d) (fits : 2 * d + 2 ≤ MAX_NODES) (member : Member) (is : IsMember d member) where
  abbrev net : Network
  net = net_of d member

  -- the kinds of ports: on a link of the cycle, on a spoke, and of a hub
  data Kind (node port : ℕ) : Type 0 where
    Link : node < 2 * d → member.role node port < 2
        → far_of net node port ≡ link_on d member node (member.role node port) → Kind node port
    Spoke : node < 2 * d → member.role node port ≡ 2 → far_of net node port ≡ hub_end d (member.slot node)
        → Kind node port
    Hub : 2 * d ≤ node → node < 2 * d + 2 → port < d → far_of net node port ≡ spoke_of member (slot_at d node port)
        → Kind node port

  cycle_kind : (node port : ℕ) → node < 2 * d → port < 3 → Kind node port
  cycle_kind node port below small =
      let has : port < degrees d node = subst (λ (n : ℕ). port < n) (sym (degrees_cycle d node below)) small in
      let far : far_of net node port ≡ leads d member node port =
      far_is d member node port (omega (arith, below)) has in
      elim (eqb_tells (member.role node port) 2) [
        | inl h ↦ Spoke below h.1 (far ∙ leads_off d member node port below h.1)
        | inr h ↦
            let role : member.role node port < 3 = is.role_below node port small in
            let apart : member.role node port ≢ 2 = h.1 in
            Link below (omega (arith, role, apart)) (far ∙ leads_on d member node port below h.1)
      ]

  hub_kind : (node port : ℕ) → 2 * d ≤ node → node < 2 * d + 2 → port < d → Kind node port
  hub_kind node port after before small =
      let has : port < degrees d node = subst (λ (n : ℕ). port < n) (sym (degrees_hub d node after before)) small in
      Hub after before small (far_is d member node port before has ∙ leads_back d member node port after)

  kind : (node port : ℕ) → port < degree_of net node → Kind node port
  kind node port has =
      let links : port < degrees d node = subst (λ (n : ℕ). port < n) (degree_is d member node) has in
      elim (cases_lt node (2 * d)) [
        | inl h ↦ cycle_kind node port h (subst (λ (n : ℕ). port < n) (degrees_cycle d node h) links)
        | inr h ↦ elim (cases_lt node (2 * d + 2)) [
          | inl k ↦ hub_kind node port h k (subst (λ (n : ℕ). port < n) (degrees_hub d node h k) links)
          | inr k ↦ absurd (let none : degrees d node ≡ 0 = degrees_beyond d node k in omega (arith, links, none))
        ]
      ]

  on_cycle : (node port : ℕ) → node < 2 * d → port < 3 → port < degree_of net node
  on_cycle node port below small =
      subst (λ (n : ℕ). port < n) (sym (degree_is d member node ∙ degrees_cycle d node below)) small

  on_hub : (node port : ℕ) → 2 * d ≤ node → node < 2 * d + 2 → port < d → port < degree_of net node
  on_hub node port after before small =
      subst (λ (n : ℕ). port < n) (sym (degree_is d member node ∙ degrees_hub d node after before)) small

  two : 2 ≤ d
  two = omega (arith, three)

  within_by : (node port : ℕ) → Kind node port → HasPort net (far_of net node port)
  within_by node port (Link below small far) =
      let role : ℕ = member.role node port in
      subst (λ (e : End). HasPort net e) (sym far)
      (on_cycle (beside d node role) (member.port (beside d node role) (1 - role))
      (beside_below d node role two below small)
      (is.port_below (beside d node role) (1 - role) (omega arith)))
  within_by node port (Spoke below spoke far) =
      let end : IsHubEnd d (member.slot node) = hub_end_is d (member.slot node) (is.slot_below node below) in
      subst (λ (e : End). HasPort net e) (sym far)
      (on_hub (hub_end d (member.slot node)).0 (hub_end d (member.slot node)).1 end.after end.before end.port)
  within_by node port (Hub after before small far) =
      let at : IsSlotAt d node port = slot_at_is d node port after before small in
      let owner : ℕ = member.owner (slot_at d node port) in
      subst (λ (e : End). HasPort net e) (sym far)
      (on_cycle owner (member.port owner 2) (is.owner_below (slot_at d node port) at.below)
      (is.port_below owner 2 (omega arith)))

  link_far : (node port : ℕ) → node < 2 * d → port < 3 → member.role node port < 2
      → far_of net node port ≡ link_on d member node (member.role node port)
  link_far node port below small role =
      far_is d member node port (omega (arith, below))
      (subst (λ (n : ℕ). port < n) (sym (degrees_cycle d node below)) small)
      ∙ leads_on d member node port below (λ same. omega (arith, same, role))

  spoke_far : (node port : ℕ) → node < 2 * d → port < 3 → member.role node port ≡ 2
      → far_of net node port ≡ hub_end d (member.slot node)
  spoke_far node port below small spoke =
      far_is d member node port (omega (arith, below))
      (subst (λ (n : ℕ). port < n) (sym (degrees_cycle d node below)) small)
      ∙ leads_off d member node port below spoke

  hub_far : (node port : ℕ) → 2 * d ≤ node → node < 2 * d + 2 → port < d
      → far_of net node port ≡ spoke_of member (slot_at d node port)
  hub_far node port after before small =
      far_is d member node port before
      (subst (λ (n : ℕ). port < n) (sym (degrees_hub d node after before)) small)
      ∙ leads_back d member node port after

  back_by : (node port : ℕ) → Kind node port
      → far_of net (far_of net node port).0 (far_of net node port).1 ≡ (node, port)
  back_by node port (Link below small far) =
      let role : ℕ = member.role node port in
      let there : ℕ = beside d node role in
      let label : ℕ = member.port there (1 - role) in
      let role_there : member.role there label ≡ 1 - role = is.role_of_port there (1 - role) in
      ap (λ (e : End). far_of net e.0 e.1) far
      ∙ link_far there label (beside_below d node role two below small)
      (is.port_below there (1 - role) (omega arith)) (omega (arith, role_there))
      ∙ link_back d member node port two is below small
  back_by node port (Spoke below spoke far) =
      let slot : ℕ = member.slot node in
      let end : IsHubEnd d slot = hub_end_is d slot (is.slot_below node below) in
      ap (λ (e : End). far_of net e.0 e.1) far
      ∙ hub_far (hub_end d slot).0 (hub_end d slot).1 end.after end.before end.port
      ∙ ap (spoke_of member) end.back
      ∙ ap (λ (v : ℕ). let e : End = (v, member.port v 2) in e) (is.owner_of_slot node)
      ∙ ap (λ (p : ℕ). let e : End = (node, p) in e)
      (ap (member.port node) (sym spoke) ∙ is.port_of_role node port)
  back_by node port (Hub after before small far) =
      let at : IsSlotAt d node port = slot_at_is d node port after before small in
      let slot : ℕ = slot_at d node port in
      let owner : ℕ = member.owner slot in
      ap (λ (e : End). far_of net e.0 e.1) far
      ∙ spoke_far owner (member.port owner 2) (is.owner_below slot at.below) (is.port_below owner 2 (omega arith))
      (is.role_of_port owner 2)
      ∙ ap (hub_end d) (is.slot_of_owner slot) ∙ at.back

  no_loop_by : (node port : ℕ) → Kind node port → (far_of net node port).0 ≢ node
  no_loop_by node port (Link below small far) same =
      beside_moves d node (member.role node port) two below small (sym (ap (λ (e : End). e.0) far) ∙ same)
  no_loop_by node port (Spoke below spoke far) same =
      let end : IsHubEnd d (member.slot node) = hub_end_is d (member.slot node) (is.slot_below node below) in
      let after : 2 * d ≤ (hub_end d (member.slot node)).0 = end.after in
      let it : (hub_end d (member.slot node)).0 ≡ node = sym (ap (λ (e : End). e.0) far) ∙ same in
      omega (arith, after, it, below)
  no_loop_by node port (Hub after before small far) same =
      let at : IsSlotAt d node port = slot_at_is d node port after before small in
      let owner : member.owner (slot_at d node port) < 2 * d = is.owner_below (slot_at d node port) at.below in
      let it : member.owner (slot_at d node port) ≡ node = sym (ap (λ (e : End). e.0) far) ∙ same in
      omega (arith, owner, it, after)

  same_role : (node one other : ℕ) → node < 2 * d → one < 2 → other < 2 → beside d node one ≡ beside d node other
      → one ≡ other
  same_role node one other below one_small other_small =
      by_role (λ r. beside d node r ≡ beside d node other → r ≡ other) one one_small
      (by_role (λ r. beside d node 0 ≡ beside d node r → 0 ≡ r) other other_small (λ same. refl)
      (λ same. absurd (beside_apart d node two below same)))
      (by_role (λ r. beside d node 1 ≡ beside d node r → 1 ≡ r) other other_small
      (λ same. absurd (beside_apart d node two below (sym same))) (λ same. refl))

  by_roles : (node port other : ℕ) → member.role node port ≡ member.role node other → port ≡ other
  by_roles node port other same =
      sym (is.port_of_role node port) ∙ ap (member.port node) same ∙ is.port_of_role node other

  link_or_spoke : (node role : ℕ) → node < 2 * d → role < 2 → beside d node role ≢ (hub_end d (member.slot node)).0
  link_or_spoke node role below small same =
      let end : IsHubEnd d (member.slot node) = hub_end_is d (member.slot node) (is.slot_below node below) in
      let after : 2 * d ≤ (hub_end d (member.slot node)).0 = end.after in
      let near : beside d node role < 2 * d = beside_below d node role two below small in
      omega (arith, after, near, same)

  simple_by : (node port other : ℕ) → Kind node port → Kind node other
      → (far_of net node port).0 ≡ (far_of net node other).0 → port ≡ other
  simple_by node port other (Link below small far) (Link below_too small_too far_too) same =
      by_roles node port other (same_role node (member.role node port) (member.role node other) below small small_too
      (sym (ap (λ (e : End). e.0) far) ∙ same ∙ ap (λ (e : End). e.0) far_too))
  simple_by node port other (Link below small far) (Spoke below_too spoke far_too) same =
      absurd (link_or_spoke node (member.role node port) below small
      (sym (ap (λ (e : End). e.0) far) ∙ same ∙ ap (λ (e : End). e.0) far_too))
  simple_by node port other (Spoke below spoke far) (Link below_too small far_too) same =
      absurd (link_or_spoke node (member.role node other) below small
      (sym (ap (λ (e : End). e.0) far_too) ∙ sym same ∙ ap (λ (e : End). e.0) far))
  simple_by node port other (Spoke below spoke far) (Spoke below_too spoke_too far_too) same =
      by_roles node port other (spoke ∙ sym spoke_too)
  simple_by node port other (Hub after before small far) (Hub after_too before_too small_too far_too) same =
      let at : IsSlotAt d node port = slot_at_is d node port after before small in
      let at_too : IsSlotAt d node other = slot_at_is d node other after before small_too in
      let owners : member.owner (slot_at d node port) ≡ member.owner (slot_at d node other) =
      sym (ap (λ (e : End). e.0) far) ∙ same ∙ ap (λ (e : End). e.0) far_too in
      let slots : slot_at d node port ≡ slot_at d node other =
      sym (is.slot_of_owner (slot_at d node port)) ∙ ap member.slot owners
      ∙ is.slot_of_owner (slot_at d node other) in
      ap (λ (e : End). e.1) (sym at.back ∙ ap (hub_end d) slots ∙ at_too.back)
  simple_by node port other (Hub after before small far) (Link below role far_too) same =
      absurd (omega (arith, after, below))
  simple_by node port other (Hub after before small far) (Spoke below spoke far_too) same =
      absurd (omega (arith, after, below))
  simple_by node port other (Link below role far) (Hub after before small far_too) same =
      absurd (omega (arith, after, below))
  simple_by node port other (Spoke below spoke far) (Hub after before small far_too) same =
      absurd (omega (arith, after, below))

  pub labelled : IsPortLabelled net
  labelled = record {
    few = let nodes : nodes_of net ≡ 2 * d + 2 = size d member in
        let enough : 3 ≤ nodes_of net = omega (arith, nodes, three) in enough;
    many = subst (λ (n : ℕ). n ≤ MAX_NODES) (sym (size d member)) fits;
    within = λ node port has. within_by node port (kind node port has);
    back = λ node port has. back_by node port (kind node port has);
    no_loop = λ node port has. no_loop_by node port (kind node port has);
    simple = λ node port other has has_too. simple_by node port other (kind node port has) (kind node other has_too);
  }

  -- ---- where links lead

  pub link_leads : (node role : ℕ) → node < 2 * d → role < 2 → Leads net node (beside d node role)
  link_leads node role below small =
      let port : ℕ = member.port node role in
      let is_role : member.role node port ≡ role = is.role_of_port node role in
      let port_small : port < 3 = is.port_below node role (omega (arith, small)) in (
        port,
        on_cycle node port below port_small,
        ap (λ (e : End). e.0) (link_far node port below port_small (omega (arith, is_role, small)))
            ∙ ap (beside d node) is_role,
      )

  pub hub_leads : (node port : ℕ) → 2 * d ≤ node → node < 2 * d + 2 → port < d
      → Leads net node (member.owner (slot_at d node port))
  hub_leads node port after before small =
      (port, on_hub node port after before small, ap (λ (e : End). e.0) (hub_far node port after before small))
