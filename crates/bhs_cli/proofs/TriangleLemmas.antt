-- The links of the triangle have no fault, and make the network that `triangle` says.
use Rattle.std.proofs.Common.{◌≡◌, ℕ, zero, suc, ◌<◌, ◌≤◌, ◌⊎◌, inl, inr, List, [], ◌∷◌, length, slice_index_or, refl}
use Rattle.std.proofs.Common.{ap, subst, arith, lit<, lit≤}
use Rattle.bhs_net.specs.declared.faults.NetFault.{NetFault}
use Rattle.bhs_net.specs.declared.faults.NetFault.TheVariants.{Nodes, Node, Loop, Double, PortTwice, PortGap, Apart}
use Rattle.bhs_net.specs.declared.faults.NetFault.TheVariants.{CutNode, Memory}
use Rattle.bhs_net.specs.declared.links.Link.{Link}
use Rattle.bhs_net.specs.Links.{End, link_at, HasEnd, SameNodes, SharesEnd, IsListed, AreJoined, AreLinked}
use Rattle.bhs_net.specs.Network.{Network, row_of, degree_of, far_of, Makes}
use Rattle.bhs_net.specs.Faults.{IsStray, IsLoop, IsDouble, IsPortTwice, IsGap, IsApart, IsCut, Holds}
use Rattle.bhs_cli.specs.BuiltIn.{triangle}

abbrev pub links : List Link
links = record { v = 0; p = 0; w = 1; q = 0 } ∷ record { v = 1; p = 1; w = 2; q = 0 } ∷ record
    { v = 2; p = 1; w = 0; q = 1 } ∷ []

-- case analysis over the three places of the list
at_place : (P : ℕ → Type 0) → P 0 → P 1 → P 2 → (place : ℕ) → place < 3 → P place
at_place P first second third zero within = first
at_place P first second third (suc zero) within = second
at_place P first second third (suc (suc zero)) within = third
at_place P first second third (suc (suc (suc more))) within = absurd (omega arith)

pub no_stray : (place : ℕ) → ¬ IsStray 3 links place
no_stray place stray =
    at_place (λ (n : ℕ). (3 ≤ (link_at links n).v) ⊎ (3 ≤ (link_at links n).w) → ⊥)
    (λ h. elim h [ inl e ↦ omega arith | inr e ↦ omega arith ])
    (λ h. elim h [ inl e ↦ omega arith | inr e ↦ omega arith ])
    (λ h. elim h [ inl e ↦ omega arith | inr e ↦ omega arith ])
    place stray.0 stray.1

pub no_loop : (place : ℕ) → ¬ IsLoop links place
no_loop place loop =
    at_place (λ (n : ℕ). (link_at links n).v ≡ (link_at links n).w → ⊥) (λ e. omega arith) (λ e. omega arith)
    (λ e. omega arith) place loop.0 loop.1

-- no two of the links join the same nodes
no_pair : (early late : ℕ) → late < 3 → early < late → SameNodes (link_at links early) (link_at links late) → ⊥
no_pair zero zero within before same = omega arith
no_pair zero (suc zero) within before same = elim same [ inl e ↦ omega arith | inr e ↦ omega arith ]
no_pair zero (suc (suc zero)) within before same = elim same [ inl e ↦ omega arith | inr e ↦ omega arith ]
no_pair zero (suc (suc (suc more))) within before same = omega arith
no_pair (suc zero) zero within before same = omega arith
no_pair (suc zero) (suc zero) within before same = omega arith
no_pair (suc zero) (suc (suc zero)) within before same = elim same [ inl e ↦ omega arith | inr e ↦ omega arith ]
no_pair (suc zero) (suc (suc (suc more))) within before same = omega arith
no_pair (suc (suc more)) late within before same = omega arith

pub no_double : (place : ℕ) → ¬ IsDouble links place
no_double place double = no_pair double.1.0 place double.0 double.1.1 double.1.2

-- ends that differ
differ : (a b c d : ℕ) → (a ≡ c → b ≡ d → ⊥) → (let one : End = (a, b) in let two : End = (c, d) in one ≡ two) → ⊥
differ a b c d not_both same = not_both (ap (λ (end : End). end.0) same) (ap (λ (end : End). end.1) same)

-- no end of a link is one of an earlier link
no_shared : (early late : ℕ) → late < 3 → early < late → SharesEnd (link_at links early) (link_at links late) → ⊥
no_shared zero zero within before shared = omega arith
no_shared zero (suc zero) within before shared = elim shared [
  | inl near ↦ elim near [
    | inl e ↦ differ 0 0 1 1 (λ p q. omega arith) e
    | inr e ↦ differ 1 0 1 1
        (λ p q. omega arith) e
  ]
  | inr far ↦ elim far [ inl e ↦ differ 0 0 2 0 (λ p q. omega arith) e | inr e ↦ differ 1 0 2 0 (λ p q. omega arith) e ]
]
no_shared zero (suc (suc zero)) within before shared = elim shared [
  | inl near ↦ elim near [
    | inl e ↦ differ 0 0 2 1 (λ p q. omega arith) e
    | inr e ↦ differ 1 0 2 1
        (λ p q. omega arith) e
  ]
  | inr far ↦ elim far [ inl e ↦ differ 0 0 0 1 (λ p q. omega arith) e | inr e ↦ differ 1 0 0 1 (λ p q. omega arith) e ]
]
no_shared zero (suc (suc (suc more))) within before shared = omega arith
no_shared (suc zero) zero within before shared = omega arith
no_shared (suc zero) (suc zero) within before shared = omega arith
no_shared (suc zero) (suc (suc zero)) within before shared = elim shared [
  | inl near ↦ elim near [
    | inl e ↦ differ 1 1 2 1 (λ p q. omega arith) e
    | inr e ↦ differ 2 0 2 1
        (λ p q. omega arith) e
  ]
  | inr far ↦ elim far [ inl e ↦ differ 1 1 0 1 (λ p q. omega arith) e | inr e ↦ differ 2 0 0 1 (λ p q. omega arith) e ]
]
no_shared (suc zero) (suc (suc (suc more))) within before shared = omega arith
no_shared (suc (suc more)) late within before shared = omega arith

pub no_port_twice : (place : ℕ) → ¬ IsPortTwice links place
no_port_twice place twice = no_shared twice.1.0 place twice.0 twice.1.1 twice.1.2

-- the ends that are listed: ports 0 and 1 of the nodes 0, 1 and 2
low : (a b node port : ℕ) → a ≤ 2 → b ≤ 1 → (let one : End = (a, b) in let two : End = (node, port) in one ≡ two)
    → (node ≤ 2) × (port ≤ 1)
low a b node port node_low port_low same =
    let n : a ≡ node = ap (λ (end : End). end.0) same in
    let p : b ≡ port = ap (λ (end : End). end.1) same in
    (omega arith, omega arith)

pub listed_low : (node port : ℕ) → IsListed links (node, port) → (node ≤ 2) × (port ≤ 1)
listed_low node port listed =
    at_place (λ (n : ℕ). HasEnd (link_at links n) (node, port) → (node ≤ 2) × (port ≤ 1))
    (λ h. elim h [ inl e ↦ low 0 0 node port (lit≤ tt) (lit≤ tt) e | inr e ↦ low 1 0 node port (lit≤ tt) (lit≤ tt) e ])
    (λ h. elim h [ inl e ↦ low 1 1 node port (lit≤ tt) (lit≤ tt) e | inr e ↦ low 2 0 node port (lit≤ tt) (lit≤ tt) e ])
    (λ h. elim h [ inl e ↦ low 2 1 node port (lit≤ tt) (lit≤ tt) e | inr e ↦ low 0 1 node port (lit≤ tt) (lit≤ tt) e ])
    listed.0 listed.1 listed.2

first_listed : (node : ℕ) → node ≤ 2 → IsListed links (node, 0)
first_listed zero within = (0, lit< tt, inl refl)
first_listed (suc zero) within = (0, lit< tt, inr refl)
first_listed (suc (suc zero)) within = (1, lit< tt, inr refl)
first_listed (suc (suc (suc more))) within = absurd (omega arith)

pub no_gap : (node : ℕ) → ¬ IsGap links node
no_gap node gap =
    let bounds = listed_low node gap.0 gap.2 in
    let lowest : 0 ≡ gap.1 = omega arith in
    gap.4 (subst (λ (port : ℕ). IsListed links (node, port)) lowest (first_listed node bounds.0))

-- a link joins each two nodes
linked_or_same : (node other : ℕ) → node < 3 → other < 3 → (node ≡ other) ⊎ AreLinked links node other
linked_or_same zero zero n o = inl refl
linked_or_same zero (suc zero) n o = inr (0, 0, (0, lit< tt, inl (refl, refl)))
linked_or_same zero (suc (suc zero)) n o = inr (1, 1, (2, lit< tt, inr (refl, refl)))
linked_or_same (suc zero) zero n o = inr (0, 0, (0, lit< tt, inr (refl, refl)))
linked_or_same (suc zero) (suc zero) n o = inl refl
linked_or_same (suc zero) (suc (suc zero)) n o = inr (1, 0, (1, lit< tt, inl (refl, refl)))
linked_or_same (suc (suc zero)) zero n o = inr (1, 1, (2, lit< tt, inl (refl, refl)))
linked_or_same (suc (suc zero)) (suc zero) n o = inr (0, 1, (1, lit< tt, inr (refl, refl)))
linked_or_same (suc (suc zero)) (suc (suc zero)) n o = inl refl
linked_or_same node (suc (suc (suc more))) n o = absurd (omega arith)
linked_or_same (suc (suc (suc more))) other n o = absurd (omega arith)

pub not_apart : ¬ IsApart 3 links
not_apart apart = apart.4 (elim (linked_or_same apart.0 apart.1 apart.2 apart.3) [
  | inl same ↦ (0, same)
  | inr linked ↦ (1, (apart.0, refl, linked))
])

pub no_cut : (node : ℕ) → ¬ IsCut 3 links node
no_cut node cut =
    let ends = cut.1 in
    ends.6 (elim (linked_or_same ends.0 ends.1 ends.2 ends.3) [
      | inl same ↦ (0, same)
      | inr linked ↦ (1, (ends.0, refl, (linked, ends.4, ends.5)))
    ])

-- the links have no fault
pub no_fault : (fault : NetFault) → ¬ Holds 3 links fault
no_fault Nodes holds = elim holds [ inl e ↦ omega arith | inr e ↦ omega arith ]
no_fault (Node link) holds = no_stray link holds
no_fault (Loop link) holds = no_loop link holds
no_fault (Double link) holds = no_double link holds
no_fault (PortTwice link) holds = no_port_twice link holds
no_fault (PortGap node) holds = no_gap node holds
no_fault Apart holds = not_apart holds
no_fault (CutNode node) holds = no_cut node holds
no_fault Memory holds = holds

-- a list is its elements
list_of_two : (xs : List End) (d a b : End) → length xs ≡ 2 → slice_index_or xs 0 d ≡ a → slice_index_or xs 1 d ≡ b
    → xs ≡ a ∷ b ∷ []
list_of_two [] d a b two first second = absurd (omega arith)
list_of_two (x ∷ []) d a b two first second = absurd (omega arith)
list_of_two (x ∷ y ∷ []) d a b two first second = rw (first, second) refl
list_of_two (x ∷ y ∷ z ∷ more) d a b two first second = absurd (omega arith)

list_of_three : (xs : Network) (d a b c : List End) → length xs ≡ 3 → slice_index_or xs 0 d ≡ a
    → slice_index_or xs 1 d ≡ b → slice_index_or xs 2 d ≡ c → xs ≡ a ∷ b ∷ c ∷ []
list_of_three [] d a b c three first second third = absurd (omega arith)
list_of_three (x ∷ []) d a b c three first second third = absurd (omega arith)
list_of_three (x ∷ y ∷ []) d a b c three first second third = absurd (omega arith)
list_of_three (x ∷ y ∷ z ∷ []) d a b c three first second third = rw (first, second, third) refl
list_of_three (x ∷ y ∷ z ∷ w ∷ more) d a b c three first second third = absurd (omega arith)

-- an end that is joined is listed
listed_from_joined : (end other : End) → AreJoined links end other → IsListed links end
listed_from_joined end other joined = (joined.0, joined.1, elim joined.2 [ inl e ↦ inl e.0 | inr e ↦ inr e.0 ])

exactly_two : (n : ℕ) → 1 < n → (2 < n → 2 ≤ 1) → n ≡ 2
exactly_two zero above below = omega arith
exactly_two (suc zero) above below = omega arith
exactly_two (suc (suc zero)) above below = refl
exactly_two (suc (suc (suc more))) above below = let bad : 2 ≤ 1 = below (omega arith) in absurd (omega arith)

two_ports : (net : Network) (node : ℕ) → Makes 3 links net → 1 < degree_of net node → degree_of net node ≡ 2
two_ports net node lists second =
    let no_third : 2 < degree_of net node → 2 ≤ 1 =
    λ third. (listed_low node 2 (listed_from_joined (node, 2) (far_of net node 2)
    (lists.made_of.all node 2 third))).1 in
    exactly_two (degree_of net node) second no_third

pub is_triangle : (net : Network) → Makes 3 links net → net ≡ triangle
is_triangle net lists =
    let near = lists.made_of.near in
    let far = lists.made_of.far in
    list_of_three net [] _ _ _ lists.size
    (list_of_two (row_of net 0) (0, 0) (1, 0) (2, 1) (two_ports net 0 lists (far 2 (lit< tt)).0) (near 0 (lit< tt)).1
    (far 2 (lit< tt)).1)
    (list_of_two (row_of net 1) (0, 0) (0, 0) (2, 0) (two_ports net 1 lists (near 1 (lit< tt)).0) (far 0 (lit< tt)).1
    (near 1 (lit< tt)).1)
    (list_of_two (row_of net 2) (0, 0) (1, 1) (0, 1) (two_ports net 2 lists (near 2 (lit< tt)).0) (far 1 (lit< tt)).1
    (near 2 (lit< tt)).1)
