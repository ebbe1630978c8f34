-- The adversary's family of networks: a cycle, each of whose nodes has a third link, its spoke, to one of two hubs. The
-- members of the family differ in the port numbers at cycle nodes, and in which hub port each spoke ends at.
use Rattle.std.proofs.Common.{ℕ, ◌+◌, ◌-◌, ◌*◌, ◌<◌, ◌≤◌, ◌≡◌, ◌⊎◌, Bool, false, ◌==◌, refl, sym, ap}
use Rattle.std.proofs.Common.{◌∙◌, subst, if◌then◌else◌, nat_lt, inl, inr, arith}
use Rattle.std.specs.Prelude.{◌≢◌}
use Rattle.std.proofs.lemmas.Bool.{cond-true, cond-false, lt-ltb, cases_lt}
use Rattle.std.proofs.lemmas.Bool.Decides.{eqb_tells}
use Rattle.bhs_protocols_unmapped.proofs.Rims as rims

-- ---- an exchange of two numbers

pub swap : (a b x : ℕ) → ℕ
swap a b x = if x == a then b else (if x == b then a else x)

pub swap_first : (a b : ℕ) → swap a b a ≡ b
unfolding swap
swap_first a b = elim (eqb_tells a a) [
  | inl h ↦ cond-true (a == a) b (if a == b then a else a) h.0
  | inr h ↦ absurd (h.1 refl)
]

pub swap_second : (a b : ℕ) → swap a b b ≡ a
unfolding swap
swap_second a b = elim (eqb_tells b a) [
  | inl h ↦ cond-true (b == a) b (if b == b then a else b) h.0 ∙ h.1
  | inr h ↦ cond-false (b == a) b (if b == b then a else b) h.0 ∙ elim (eqb_tells b b) [
    | inl k ↦ cond-true (b == b) a b k.0
    | inr k ↦ absurd (k.1 refl)
  ]
]

pub swap_other : (a b x : ℕ) → x ≢ a → x ≢ b → swap a b x ≡ x
unfolding swap
swap_other a b x not_a not_b = elim (eqb_tells x a) [
  | inl h ↦ absurd (not_a h.1)
  | inr h ↦ cond-false (x == a) b (if x == b then a else x) h.0 ∙ elim (eqb_tells x b) [
    | inl k ↦ absurd (not_b k.1)
    | inr k ↦ cond-false (x == b) a x k.0
  ]
]

-- A number equals `a`, equals `b`, or is fixed by the exchange.
swap_is : (a b x : ℕ) → ((x ≡ a) × (swap a b x ≡ b)) ⊎ (((x ≡ b) × (swap a b x ≡ a)) ⊎ (swap a b x ≡ x))
swap_is a b x = elim (eqb_tells x a) [
  | inl h ↦ inl (h.1, ap (swap a b) h.1 ∙ swap_first a b)
  | inr h ↦ elim (eqb_tells x b) [
    | inl k ↦ inr (inl (k.1, ap (swap a b) k.1 ∙ swap_second a b))
    | inr k ↦ inr (inr (swap_other a b x h.1 k.1))
  ]
]

pub swap_twice : (a b x : ℕ) → swap a b (swap a b x) ≡ x
swap_twice a b x = elim (swap_is a b x) [
  | inl h ↦ ap (swap a b) h.1 ∙ swap_second a b ∙ sym h.0
  | inr h ↦ elim h [
    | inl k ↦ ap (swap a b) k.1 ∙ swap_first a b ∙ sym k.0
    | inr k ↦ ap (swap a b) k ∙ k
  ]
]

pub swap_below : (a b x m : ℕ) → a < m → b < m → x < m → swap a b x < m
swap_below a b x m below_a below_b below = elim (swap_is a b x) [
  | inl h ↦ subst (λ (y : ℕ). y < m) (sym h.1) below_b
  | inr h ↦ elim h [
    | inl k ↦ subst (λ (y : ℕ). y < m) (sym k.1) below_a
    | inr k ↦ subst (λ (y : ℕ). y < m) (sym k) below
  ]
]

-- ---- the cycle

-- the neighbour of a node on a cycle of 2 * d nodes
abbrev pub beside : (d node role : ℕ) → ℕ
beside d = rims.beside (2 * d)

pub next_is : (d node : ℕ) → ((node + 1 ≡ 2 * d) × (beside d node 0 ≡ 0)) ⊎ ((node + 1 ≢ 2 * d)
    × (beside d node 0 ≡ node + 1))
next_is d = rims.next_is (2 * d)

pub before_is : (d node : ℕ) → ((node ≡ 0) × (beside d node 1 ≡ 2 * d - 1)) ⊎ ((node ≢ 0)
    × (beside d node 1 ≡ node - 1))
before_is d = rims.before_is (2 * d)

pub by_role : (P : ℕ → Type 0) (role : ℕ) → role < 2 → P 0 → P 1 → P role
by_role = rims.by_role

pub beside_below : (d node role : ℕ) → 2 ≤ d → node < 2 * d → role < 2 → beside d node role < 2 * d
beside_below d node role two = rims.beside_below (2 * d) node role (omega (arith, two))

pub beside_back : (d node role : ℕ) → 2 ≤ d → node < 2 * d → role < 2
    → beside d (beside d node role) (1 - role) ≡ node
beside_back d node role two = rims.beside_back (2 * d) node role (omega (arith, two))

pub beside_moves : (d node role : ℕ) → 2 ≤ d → node < 2 * d → role < 2 → beside d node role ≢ node
beside_moves d node role two = rims.beside_moves (2 * d) node role (omega (arith, two))

pub beside_apart : (d node : ℕ) → 2 ≤ d → node < 2 * d → beside d node 0 ≢ beside d node 1
beside_apart d node two = rims.beside_apart (2 * d) node (omega (arith, two))

pub not_below : (a b : ℕ) → b ≤ a → nat_lt a b ≡ false
not_below a b h = grind (arith, h)

-- ---- a network of the family

-- at each node of the cycle which role a port has, and at which port a role is: 0 leads to the next node, 1 to the one
-- before, and 2 is the spoke; and which slot of the hubs the spoke of a node has, and whose spoke has a slot
pub record Member : Type 0 where
  pub role : (node port : ℕ) → ℕ
  pub port : (node role : ℕ) → ℕ
  pub slot : (node : ℕ) → ℕ
  pub owner : (slot : ℕ) → ℕ

pub record IsMember (d : ℕ) (member : Member) : Type 0 where
  pub role_below : (node port : ℕ) → port < 3 → member.role node port < 3
  pub port_below : (node role : ℕ) → role < 3 → member.port node role < 3
  pub port_of_role : (node port : ℕ) → member.port node (member.role node port) ≡ port
  pub role_of_port : (node role : ℕ) → member.role node (member.port node role) ≡ role
  pub slot_below : (node : ℕ) → node < 2 * d → member.slot node < 2 * d
  pub owner_below : (slot : ℕ) → slot < 2 * d → member.owner slot < 2 * d
  pub owner_of_slot : (node : ℕ) → member.owner (member.slot node) ≡ node
  pub slot_of_owner : (slot : ℕ) → member.slot (member.owner slot) ≡ slot

-- the hubs: the last node has the first d slots, and the one before has the others
abbrev pub hub_end : (d slot : ℕ) → ℕ × ℕ
hub_end d slot = if nat_lt slot d then (2 * d + 1, slot) else (2 * d, slot - d)

abbrev pub slot_at : (d node port : ℕ) → ℕ
slot_at d node port = if node == 2 * d then port + d else port

abbrev pub link_on : (d : ℕ) → Member → (node role : ℕ) → ℕ × ℕ
link_on d member node role = (beside d node role, member.port (beside d node role) (1 - role))

abbrev pub spoke_of : Member → (slot : ℕ) → ℕ × ℕ
spoke_of member slot = (member.owner slot, member.port (member.owner slot) 2)

-- to which end a port leads
pub leads : (d : ℕ) → Member → (node port : ℕ) → ℕ × ℕ
leads d member node port =
    if nat_lt node (2 * d)
    then (if member.role node port == 2
    then hub_end d (member.slot node)
    else link_on d member node (member.role node port))
    else spoke_of member (slot_at d node port)

pub leads_on : (d : ℕ) (member : Member) (node port : ℕ) → node < 2 * d → member.role node port ≢ 2
    → leads d member node port ≡ link_on d member node (member.role node port)
unfolding leads
leads_on d member node port below apart =
    cond-true (nat_lt node (2 * d)) _ _ (lt-ltb node (2 * d) below) ∙ elim (eqb_tells (member.role node port) 2) [
      | inl h ↦ absurd (apart h.1)
      | inr h ↦ cond-false (member.role node port == 2) _ _ h.0
    ]

pub leads_off : (d : ℕ) (member : Member) (node port : ℕ) → node < 2 * d → member.role node port ≡ 2
    → leads d member node port ≡ hub_end d (member.slot node)
unfolding leads
leads_off d member node port below spoke =
    cond-true (nat_lt node (2 * d)) _ _ (lt-ltb node (2 * d) below) ∙ elim (eqb_tells (member.role node port) 2) [
      | inl h ↦ cond-true (member.role node port == 2) _ _ h.0
      | inr h ↦ absurd (h.1 spoke)
    ]

pub leads_back : (d : ℕ) (member : Member) (node port : ℕ) → 2 * d ≤ node
    → leads d member node port ≡ spoke_of member (slot_at d node port)
unfolding leads
leads_back d member node port beyond = elim (cases_lt node (2 * d)) [
  | inl h ↦ absurd (omega (arith, h, beyond))
  | inr h ↦ cond-false (nat_lt node (2 * d)) _ _ (not_below node (2 * d) h)
]

pub first_slots : (d slot : ℕ) → slot < d → hub_end d slot ≡ (2 * d + 1, slot)
first_slots d slot below = cond-true (nat_lt slot d) (2 * d + 1, slot) (2 * d, slot - d) (lt-ltb slot d below)

-- a link of the cycle leads back
pub link_back : (d : ℕ) (member : Member) (node port : ℕ) → 2 ≤ d → IsMember d member → node < 2 * d
    → member.role node port < 2 → link_on d member (link_on d member node (member.role node port)).0
    (member.role (link_on d member node (member.role node port)).0 (link_on d member node (member.role node port)).1)
    ≡ (node, port)
link_back d member node port two is within small =
    let role : ℕ = member.role node port in
    let there : ℕ = beside d node role in
    let twice : 1 - (1 - role) ≡ role = omega (arith, small) in
    let back : beside d there (1 - role) ≡ node = beside_back d node role two within small in
    ap (link_on d member there) (is.role_of_port there (1 - role))
    ∙ (λ i. (back i, member.port (back i) (twice i)))
    ∙ ap (λ (label : ℕ). let end : ℕ × ℕ = (node, label) in end) (is.port_of_role node port)

-- ---- the hubs

pub record IsHubEnd (d slot : ℕ) : Type 0 where
  pub after : 2 * d ≤ (hub_end d slot).0
  pub before : (hub_end d slot).0 < 2 * d + 2
  pub port : (hub_end d slot).1 < d
  pub back : slot_at d (hub_end d slot).0 (hub_end d slot).1 ≡ slot

pub hub_end_is : (d slot : ℕ) → slot < 2 * d → IsHubEnd d slot
hub_end_is d slot small = elim (cases_lt slot d) [
  | inl h ↦
      let is : hub_end d slot ≡ (2 * d + 1, slot) = first_slots d slot h in
      record {
        after = subst (λ (e : ℕ × ℕ). 2 * d ≤ e.0) (sym is) (omega arith);
        before = subst (λ (e : ℕ × ℕ). e.0 < 2 * d + 2) (sym is) (omega arith);
        port = subst (λ (e : ℕ × ℕ). e.1 < d) (sym is) h;
        back = subst (λ (e : ℕ × ℕ). slot_at d e.0 e.1 ≡ slot) (sym is) (last_hub (2 * d + 1 == 2 * d) refl);
      }
  | inr h ↦
      let is : hub_end d slot ≡ (2 * d, slot - d) =
      cond-false (nat_lt slot d) (2 * d + 1, slot) (2 * d, slot - d) (not_below slot d h) in
      record {
        after = subst (λ (e : ℕ × ℕ). 2 * d ≤ e.0) (sym is) (omega arith);
        before = subst (λ (e : ℕ × ℕ). e.0 < 2 * d + 2) (sym is) (omega arith);
        port = subst (λ (e : ℕ × ℕ). e.1 < d) (sym is) (let it : slot - d < d = omega (arith, small, h) in it);
        back = subst (λ (e : ℕ × ℕ). slot_at d e.0 e.1 ≡ slot) (sym is) (first_hub h);
      }
]
  where
    last_hub : (b : Bool) → (2 * d + 1 == 2 * d) ≡ b → slot_at d (2 * d + 1) slot ≡ slot
    last_hub b is = elim (eqb_tells (2 * d + 1) (2 * d)) [
      | inl k ↦ absurd (omega (arith, k.1))
      | inr k ↦ cond-false (2 * d + 1 == 2 * d) (slot + d) slot k.0
    ]

    first_hub : d ≤ slot → slot_at d (2 * d) (slot - d) ≡ slot
    first_hub h = elim (eqb_tells (2 * d) (2 * d)) [
      | inl k ↦ cond-true (2 * d == 2 * d) (slot - d + d) (slot - d) k.0
          ∙ (let it : slot - d + d ≡ slot = omega (arith, h) in it)
      | inr k ↦ absurd (k.1 refl)
    ]

-- the slot of a port of a hub
pub record IsSlotAt (d node port : ℕ) : Type 0 where
  pub below : slot_at d node port < 2 * d
  pub back : hub_end d (slot_at d node port) ≡ (node, port)

pub slot_at_is : (d node port : ℕ) → 2 * d ≤ node → node < 2 * d + 2 → port < d → IsSlotAt d node port
slot_at_is d node port after before small = elim (eqb_tells node (2 * d)) [
  | inl h ↦
      let is : slot_at d node port ≡ port + d = cond-true (node == 2 * d) (port + d) port h.0 in
      record {
        below = omega (arith, is, small);
        back = ap (hub_end d) is
            ∙ cond-false (nat_lt (port + d) d) (2 * d + 1, port + d) (2 * d, port + d - d)
            (not_below (port + d) d (omega arith))
            ∙ (let same : port + d - d ≡ port = omega arith in λ i. (sym (h.1) i, same i));
      }
  | inr h ↦
      let is : slot_at d node port ≡ port = cond-false (node == 2 * d) (port + d) port h.0 in
      let apart : node ≢ 2 * d = h.1 in
      record {
        below = omega (arith, is, small);
        back = ap (hub_end d) is ∙ first_slots d port small
            ∙ (let same : 2 * d + 1 ≡ node = omega (arith, after, before, apart) in λ i. (same i, port));
      }
]
