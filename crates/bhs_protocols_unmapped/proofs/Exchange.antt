-- What is known of a network while a match is played on it, and the exchange of two ports and two slots that nobody
-- can have noticed.
use Rattle.std.proofs.Common.{ℕ, ◌+◌, ◌-◌, ◌*◌, ◌<◌, ◌≤◌, ◌≡◌, ◌⊎◌, Bool, true, false, ◌||◌, ◌&&◌, ◌==◌, refl, sym, ap}
use Rattle.std.proofs.Common.{◌∙◌, subst, if◌then◌else◌, inl, inr, arith}
use Rattle.std.specs.Prelude.{◌≢◌}
use Rattle.std.proofs.lemmas.Bool.{cond-true, cond-false, true≢false}
use Rattle.std.proofs.lemmas.Bool.Decides.{eqb_tells}
use Rattle.bhs_protocols_unmapped.proofs.Cycle.{swap, swap_first, swap_second, swap_other, swap_twice, swap_below}
use Rattle.bhs_protocols_unmapped.proofs.Cycle.{Member, IsMember, beside, beside_below, hub_end, link_on, link_back}
use Rattle.bhs_protocols_unmapped.proofs.Cycle.{leads, leads_on, leads_off}

-- the ports whose far ends the agents know
abbrev pub Known : Type 0
Known = (node port : ℕ) → Bool

-- these, and one more
pub added : Known → (node port : ℕ) → Known
added known node port other label = known other label || (other == node && label == port)

pub added_old : (known : Known) (node port other label : ℕ) → known other label ≡ true
    → added known node port other label ≡ true
unfolding added
added_old known node port other label was = ap (λ (b : Bool). b || (other == node && label == port)) was

pub added_here : (known : Known) (node port : ℕ) → added known node port node port ≡ true
unfolding added
added_here known node port = elim (eqb_tells node node) [
  | inl h ↦ elim (eqb_tells port port) [
    | inl k ↦ or_true (known node port) (node == node && port == port)
        (ap (λ (b : Bool). b && port == port) h.0 ∙ k.0)
    | inr k ↦ absurd (k.1 refl)
  ]
  | inr h ↦ absurd (h.1 refl)
]
  where
    or_true : (a b : Bool) → b ≡ true → (a || b) ≡ true
    or_true true b h = refl
    or_true false b h = h

pub added_is : (known : Known) (node port other label : ℕ) → added known node port other label ≡ true
    → (known other label ≡ true) ⊎ ((other ≡ node) × (label ≡ port))
unfolding added
added_is known node port other label is = elim (eqb_tells other node) [
  | inl h ↦ elim (eqb_tells label port) [
    | inl k ↦ inr (h.1, k.1)
    | inr k ↦ inl (or_false (known other label) (other == node && label == port)
        (ap (λ (b : Bool). b && label == port) h.0 ∙ k.0) is)
  ]
  | inr h ↦ inl (or_false (known other label) (other == node && label == port)
      (ap (λ (b : Bool). b && label == port) h.0) is)
]
  where
    or_false : (a b : Bool) → b ≡ false → (a || b) ≡ true → a ≡ true
    or_false true b h is = refl
    or_false false b h is = absurd (true≢false (sym is ∙ h))

-- whether the far end of a link of the cycle is known
abbrev pub far_known : (d : ℕ) → Member → Known → (node port : ℕ) → Bool
far_known d member known node port =
    let far : ℕ × ℕ = link_on d member node (member.role node port) in known far.0 far.1

-- What is known of a member: whole links of the cycle, and the spokes that have the first slots, which lead to the
-- black hole.
pub record IsKnown (d count : ℕ) (member : Member) (known : Known) : Type 0 where
  pub cycle : (node port : ℕ) → known node port ≡ true → node < 2 * d
  pub below : (node port : ℕ) → known node port ≡ true → port < 3
  pub back : (node port : ℕ) → known node port ≡ true → member.role node port ≢ 2
      → far_known d member known node port ≡ true
  pub spent : (node port : ℕ) → known node port ≡ true → member.role node port ≡ 2 → member.slot node < count
  pub spokes : (node : ℕ) → node < 2 * d → member.slot node < count → known node (member.port node 2) ≡ true

-- two members are the same as far as is known
abbrev pub Agree : (d : ℕ) → Known → (one two : Member) → Type 0
Agree d known one two = (node port : ℕ) → known node port ≡ true → leads d one node port ≡ leads d two node port

-- A port of a cycle node, in a member of the family that agrees with `known`.
pub record IsPort (d count : ℕ) (member : Member) (known : Known) (node port : ℕ) : Type 0 where
  pub is : IsMember d member
  pub knows : IsKnown d count member known
  pub within : node < 2 * d
  pub below : port < 3

-- ---- a link of the cycle becomes known

abbrev pub linked : (d : ℕ) → Member → Known → (node port : ℕ) → Known
linked d member known node port =
    let far : ℕ × ℕ = link_on d member node (member.role node port) in
    added (added known node port) far.0 far.1

module _ (d count : ℕ) (member : Member) (known : Known) (node port : ℕ)
    (at : IsPort d count member known node port) (apart : member.role node port ≢ 2) (two : 2 ≤ d) where
  abbrev more : Known
  more = linked d member known node port

  small : member.role node port < 2
  small = let three : member.role node port < 3 = at.is.role_below node port at.below in omega (arith, three, apart)

  abbrev far_node : ℕ
  far_node = beside d node (member.role node port)

  abbrev far_port : ℕ
  far_port = member.port far_node (1 - member.role node port)

  pub linked_old : (other label : ℕ) → known other label ≡ true → more other label ≡ true
  linked_old other label was =
      added_old (added known node port) far_node far_port other label (added_old known node port other label was)

  pub linked_here : more node port ≡ true
  linked_here = added_old (added known node port) far_node far_port node port (added_here known node port)

  linked_is : (P : ℕ → ℕ → Type 0) → ((other label : ℕ) → known other label ≡ true → P other label) → P node port
      → P far_node far_port → (other label : ℕ) → more other label ≡ true → P other label
  linked_is P old here there other label now =
      elim (added_is (added known node port) far_node far_port other label now) [
        | inl h ↦ elim (added_is known node port other label h) [
          | inl k ↦ old other label k
          | inr k ↦ subst (λ (v : ℕ). P v label) (sym k.0) (subst (P node) (sym k.1) here)
        ]
        | inr h ↦ subst (λ (v : ℕ). P v label) (sym h.0) (subst (P far_node) (sym h.1) there)
      ]

  role_there : member.role far_node far_port ≡ 1 - member.role node port
  role_there = at.is.role_of_port far_node (1 - member.role node port)

  back_there : link_on d member far_node (member.role far_node far_port) ≡ (node, port)
  back_there = link_back d member node port two at.is at.within small

  pub linked_knows : IsKnown d count member more
  linked_knows = record {
    cycle = linked_is (λ v p. v < 2 * d) at.knows.cycle at.within
        (beside_below d node (member.role node port) two at.within small);
    below = linked_is (λ v p. p < 3) at.knows.below at.below
        (at.is.port_below far_node (1 - member.role node port) (omega arith));
    back = linked_is (λ v p. member.role v p ≢ 2 → far_known d member more v p ≡ true)
        (λ v p was not_spoke. linked_old (link_on d member v (member.role v p)).0
        (link_on d member v (member.role v p)).1 (at.knows.back v p was not_spoke))
        (λ not_spoke. added_here (added known node port) far_node far_port)
        (λ not_spoke. subst (λ (e : ℕ × ℕ). more e.0 e.1 ≡ true) (sym back_there) linked_here);
    spent = linked_is (λ v p. member.role v p ≡ 2 → member.slot v < count) at.knows.spent
        (λ spoke. absurd (apart spoke))
        (λ spoke. absurd (let same : 1 - member.role node port ≡ 2 = sym role_there ∙ spoke in omega (arith, same)));
    spokes = λ v v_below v_spent. linked_old v (member.port v 2) (at.knows.spokes v v_below v_spent);
  }

-- ---- an exchange

-- two ports of one node exchanged
pub turned : (node port other_port other label : ℕ) → ℕ
turned node port other_port other label = if other == node then swap port other_port label else label

turned_here : (node port other_port label : ℕ) → turned node port other_port node label ≡ swap port other_port label
unfolding turned
turned_here node port other_port label = elim (eqb_tells node node) [
  | inl h ↦ cond-true (node == node) (swap port other_port label) label h.0
  | inr h ↦ absurd (h.1 refl)
]

turned_off : (node port other_port other label : ℕ) → other ≢ node → turned node port other_port other label ≡ label
unfolding turned
turned_off node port other_port other label apart = elim (eqb_tells other node) [
  | inl h ↦ absurd (apart h.1)
  | inr h ↦ cond-false (other == node) (swap port other_port label) label h.0
]

-- case analysis: the turn exchanges two ports, or is the identity
turned_by : (node port other_port other : ℕ) (P : (ℕ → ℕ) → Type 0) → P (swap port other_port) → P (λ label. label)
    → P (turned node port other_port other)
unfolding turned
turned_by node port other_port other P swaps keeps = elim (eqb_tells other node) [
  | inl h ↦ subst P (λ i label. sym (cond-true (other == node) (swap port other_port label) label h.0) i) swaps
  | inr h ↦ subst P (λ i label. sym (cond-false (other == node) (swap port other_port label) label h.0) i) keeps
]

-- The port becomes the spoke of the node, and takes the next slot.
abbrev pub exchanged : (count : ℕ) → Member → (node port : ℕ) → Member
exchanged count member node port = record {
  role = λ other label. member.role other (turned node port (member.port node 2) other label);
  port = λ other role. turned node port (member.port node 2) other (member.port other role);
  slot = λ other. swap count (member.slot node) (member.slot other);
  owner = λ slot. member.owner (swap count (member.slot node) slot);
}

-- The far end of the port is unknown, and no known spoke ends at the first slots of the black hole.
pub record IsFresh (d count : ℕ) (member : Member) (known : Known) (node port : ℕ) : Type 0 where
  pub at : IsPort d count member known node port
  pub unknown : known node port ≡ false
  pub unspent : count ≤ member.slot node
  pub room : count < 2 * d

module _ (d count : ℕ) (member : Member) (known : Known) (node port : ℕ)
    (fresh : IsFresh d count member known node port) where
  abbrev is : IsMember d member
  is = fresh.at.is

  abbrev knows : IsKnown d count member known
  knows = fresh.at.knows

  abbrev new : Member
  new = exchanged count member node port

  abbrev then_known : Known
  then_known = added known node port

  abbrev turn : (other label : ℕ) → ℕ
  turn = turned node port (member.port node 2)

  spoke_below : member.port node 2 < 3
  spoke_below = is.port_below node 2 (omega arith)

  turned_below : (other label : ℕ) → label < 3 → turn other label < 3
  turned_below other = turned_by node port (member.port node 2) other (λ f. (label : ℕ) → label < 3 → f label < 3)
      (λ label small. swap_below port (member.port node 2) label 3 fresh.at.below spoke_below small)
      (λ label small. small)

  turned_twice : (other label : ℕ)
      → turn other (turn other label) ≡ label
  turned_twice other =
      turned_by node port (member.port node 2) other (λ f. (label : ℕ) → f (f label) ≡ label)
      (λ label. swap_twice port (member.port node 2) label) (λ label. refl)

  pub exchanged_is : IsMember d new
  exchanged_is = record {
    role_below = λ other label small. is.role_below other (turn other label)
        (turned_below other label small);
    port_below = λ other role small. turned_below other (member.port other role) (is.port_below other role small);
    port_of_role = λ other label. ap (turn other)
        (is.port_of_role other (turn other label)) ∙ turned_twice other label;
    role_of_port = λ other role. ap (member.role other) (turned_twice other (member.port other role))
        ∙ is.role_of_port other role;
    slot_below = λ other small. swap_below count (member.slot node) (member.slot other) (2 * d) fresh.room
        (is.slot_below node fresh.at.within) (is.slot_below other small);
    owner_below = λ slot small. is.owner_below (swap count (member.slot node) slot)
        (swap_below count (member.slot node) slot (2 * d) fresh.room (is.slot_below node fresh.at.within) small);
    owner_of_slot = λ other. ap member.owner (swap_twice count (member.slot node) (member.slot other))
        ∙ is.owner_of_slot other;
    slot_of_owner = λ slot. ap (swap count (member.slot node)) (is.slot_of_owner (swap count (member.slot node) slot))
        ∙ swap_twice count (member.slot node) slot;
  }

  -- The exchange fixes each port whose far end is known.
  pub kept : (other label : ℕ) → known other label ≡ true → turn other label ≡ label
  kept other label was = elim (eqb_tells other node) [
    | inr h ↦ turned_off node port (member.port node 2) other label h.1
    | inl h ↦
        let here : known node label ≡ true = subst (λ (v : ℕ). known v label ≡ true) h.1 was in
        let not_port : label ≢ port = λ same.
        true≢false (sym (subst (λ (p : ℕ). known node p ≡ true) same here) ∙ fresh.unknown) in
        let not_spoke : label ≢ member.port node 2 = λ same.
        let spent : member.slot node < count = knows.spent node label here
        (ap (member.role node) same ∙ is.role_of_port node 2) in
        let late : count ≤ member.slot node = fresh.unspent in
        omega (arith, spent, late) in
        ap (λ (v : ℕ). turn v label) h.1
        ∙ turned_here node port (member.port node 2) label
        ∙ swap_other port (member.port node 2) label not_port not_spoke
  ]

  same_role : (other label : ℕ) → known other label ≡ true → new.role other label ≡ member.role other label
  same_role other label was = ap (member.role other) (kept other label was)

  same_link : (other label : ℕ) → known other label ≡ true → member.role other label ≢ 2 →
      link_on d new other (new.role other label) ≡ link_on d member other (member.role other label)
  same_link other label was not_spoke =
      let role : ℕ = member.role other label in
      let there : ℕ = beside d other role in
      ap (link_on d new other) (same_role other label was)
      ∙ ap (λ (p : ℕ). let end : ℕ × ℕ = (there, p) in end)
      (kept there (member.port there (1 - role)) (knows.back other label was not_spoke))

  pub same_slot : (slot : ℕ) → slot < count → swap count (member.slot node) slot ≡ slot
  same_slot slot early = swap_other count (member.slot node) slot (λ same. omega (arith, same, early))
      (λ same. let late : count ≤ member.slot node = fresh.unspent in omega (arith, same, early, late))

  -- the exchange changes nothing that is known
  pub agrees : Agree d known new member
  agrees other label was =
      let cycle : other < 2 * d = knows.cycle other label was in
      elim (eqb_tells (member.role other label) 2) [
        | inl h ↦ leads_off d new other label cycle (same_role other label was ∙ h.1)
            ∙ ap (hub_end d) (same_slot (member.slot other) (knows.spent other label was h.1))
            ∙ sym (leads_off d member other label cycle h.1)
        | inr h ↦ leads_on d new other label cycle (λ same. h.1 (sym (same_role other label was) ∙ same))
            ∙ same_link other label was h.1
            ∙ sym (leads_on d member other label cycle h.1)
      ]

  consumed_is : (P : ℕ → ℕ → Type 0) → ((other label : ℕ) → known other label ≡ true → P other label) → P node port
      → (other label : ℕ) → then_known other label ≡ true → P other label
  consumed_is P old here other label now = elim (added_is known node port other label now) [
    | inl k ↦ old other label k
    | inr k ↦ subst (λ (v : ℕ). P v label) (sym k.0) (subst (P node) (sym k.1) here)
  ]

  pub is_spoke : new.role node port ≡ 2
  is_spoke = ap (member.role node) (turned_here node port (member.port node 2) port
      ∙ swap_first port (member.port node 2)) ∙ is.role_of_port node 2

  pub spoke_here : new.port node 2 ≡ port
  spoke_here = turned_here node port (member.port node 2) (member.port node 2) ∙ swap_second port (member.port node 2)

  pub slot_here : new.slot node ≡ count
  slot_here = swap_second count (member.slot node)

  pub owner_here : new.owner count ≡ node
  owner_here = ap member.owner (swap_first count (member.slot node)) ∙ is.owner_of_slot node

  same_owner : (other : ℕ) → member.slot other ≡ member.slot node → other ≡ node
  same_owner other same = sym (is.owner_of_slot other) ∙ ap member.owner same ∙ is.owner_of_slot node

  pub consumed_knows : IsKnown d (count + 1) new then_known
  consumed_knows = record {
    cycle = consumed_is (λ v p. v < 2 * d) knows.cycle fresh.at.within;
    below = consumed_is (λ v p. p < 3) knows.below fresh.at.below;
    back = consumed_is (λ v p. new.role v p ≢ 2 → far_known d new then_known v p ≡ true)
        (λ v p was not_spoke.
        let off : member.role v p ≢ 2 = λ same. not_spoke (same_role v p was ∙ same) in
        subst (λ (e : ℕ × ℕ). then_known e.0 e.1 ≡ true) (sym (same_link v p was off))
        (added_old known node port (link_on d member v (member.role v p)).0 (link_on d member v (member.role v p)).1
        (knows.back v p was off)))
        (λ not_spoke. absurd (not_spoke is_spoke));
    spent = consumed_is (λ v p. new.role v p ≡ 2 → new.slot v < count + 1)
        (λ v p was spoke.
        let early : member.slot v < count = knows.spent v p was (sym (same_role v p was) ∙ spoke) in
        let same : new.slot v ≡ member.slot v = same_slot (member.slot v) early in
        omega (arith, same, early))
        (λ spoke. omega (arith, slot_here));
    spokes = λ v v_below early. elim (eqb_tells v node) [
      | inl h ↦
          subst (λ (u : ℕ). then_known u (new.port u 2) ≡ true) (sym h.1)
          (subst (λ (p : ℕ). then_known node p ≡ true) (sym spoke_here) (added_here known node port))
      | inr h ↦
          let off : member.slot v ≢ member.slot node = λ same. h.1 (same_owner v same) in
          elim (eqb_tells (member.slot v) count) [
            | inl k ↦ absurd (
                let now : new.slot v ≡ member.slot node =
                ap (swap count (member.slot node)) k.1 ∙ swap_first count (member.slot node) in
                let late : count ≤ member.slot node = fresh.unspent in
                omega (arith, now, early, late, off, k.1))
            | inr k ↦
                let same : new.slot v ≡ member.slot v =
                swap_other count (member.slot node) (member.slot v) k.1 off in
                let late : member.slot v ≢ count = k.1 in
                let was : known v (member.port v 2) ≡ true =
                knows.spokes v v_below (omega (arith, same, early, late)) in
                subst (λ (p : ℕ). then_known v p ≡ true) (sym (kept v (member.port v 2) was))
                (added_old known node port v (member.port v 2) was)
          ]
    ];
  }
