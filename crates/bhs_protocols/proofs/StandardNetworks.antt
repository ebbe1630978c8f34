-- The standard ring is a network of a file, so the theorems on the rings of files speak of it.
use Rattle.std.proofs.Common.{ℕ, ◌+◌, ◌-◌, ◌<◌, ◌≤◌, ◌≡◌, refl, sym, ap, ◌∙◌, subst, inl, inr, arith}
use Rattle.std.specs.Prelude.{◌≢◌}
use Rattle.std.proofs.lemmas.Bool.{cases_lt}
use Rattle.std.proofs.lemmas.Bool.Decides.{eqb_tells}
use Rattle.bhs_net.specs.declared.faults.TheConstants.{MAX_NODES}
use Rattle.bhs_net.specs.Links.{End}
use Rattle.bhs_net.specs.Network.{Network, IsPortLabelled, IsNetwork, HasPort, Leads, degree_of, far_of}
use Rattle.bhs_net.specs.Search.{ReachesAll}
use Rattle.bhs_net.proofs.Walks.{joined_without, connected}
use Rattle.bhs_protocols.specs.StandardRings.{standard_ring, StandardRingsAreNetworks, StandardRingsAreSet}
use Rattle.bhs_protocols.proofs.Cycles.{IsStart, some_start}
use Rattle.bhs_protocols.proofs.StandardLemmas.{size_is, degree_is, no_degree, to_right, to_left, across, to_first}

module _ (n : ℕ) (three : 3 ≤ n) (fits : n ≤ MAX_NODES) where
  abbrev net : Network
  net = standard_ring n

  -- The kinds of ports: to the successor; from the last node to node 0; to the predecessor; from node 0 to the last
  -- node.
  data Kind (node port : ℕ) : Type 0 where
    Right : node + 1 < n → port ≡ 0 → far_of net node port ≡ (node + 1, 1) → Kind node port
    Around : node + 1 ≡ n → port ≡ 0 → far_of net node port ≡ (0, 1) → Kind node port
    Left : 0 < node → node < n → port ≡ 1 → far_of net node port ≡ (node - 1, 0) → Kind node port
    Across : node ≡ 0 → port ≡ 1 → far_of net node port ≡ (n - 1, 0) → Kind node port

  kind_right : (node port : ℕ) → node < n → port ≡ 0 → Kind node port
  kind_right node port within zeroth = elim (eqb_tells (node + 1) n) [
    | inl h ↦ Around h.1 zeroth (ap (far_of net node) zeroth ∙ to_first n node h.1)
    | inr h ↦
        let apart : node + 1 ≢ n = h.1 in
        let below : node + 1 < n = omega (arith, within, apart) in
        Right below zeroth (ap (far_of net node) zeroth ∙ to_right n node below)
  ]

  kind_left : (node port : ℕ) → node < n → port ≡ 1 → Kind node port
  kind_left node port within first = elim (eqb_tells node 0) [
    | inl h ↦ Across h.1 first
        (ap (far_of net node) first ∙ ap (λ (k : ℕ). far_of net k 1) h.1 ∙ across n (omega (arith, three)))
    | inr h ↦
        let apart : node ≢ 0 = h.1 in
        let some : 0 < node = omega (arith, apart) in
        Left some within first (ap (far_of net node) first ∙ to_left n node some within)
  ]

  kind : (node port : ℕ) → port < degree_of net node → Kind node port
  kind node port has = elim (cases_lt node n) [
    | inl h ↦
        let two : degree_of net node ≡ 2 = degree_is n node h in
        elim (eqb_tells port 0) [
          | inl k ↦ kind_right node port h k.1
          | inr k ↦ let apart : port ≢ 0 = k.1 in kind_left node port h (omega (arith, has, two, apart))
        ]
    | inr h ↦ absurd (let none : degree_of net node ≡ 0 = no_degree n node h in omega (arith, has, none))
  ]

  has_port : (node port : ℕ) → node < n → port < 2 → HasPort net (node, port)
  has_port node port within below = subst (λ (d : ℕ). port < d) (sym (degree_is n node within)) below

  within_by : (node port : ℕ) → Kind node port → HasPort net (far_of net node port)
  within_by node port (Right below zeroth far) =
      subst (λ (e : End). HasPort net e) (sym far) (has_port (node + 1) 1 below (omega arith))
  within_by node port (Around last zeroth far) =
      subst (λ (e : End). HasPort net e) (sym far) (has_port 0 1 (omega (arith, three)) (omega arith))
  within_by node port (Left some within first far) =
      subst (λ (e : End). HasPort net e) (sym far) (has_port (node - 1) 0 (omega (arith, within)) (omega arith))
  within_by node port (Across zeroth first far) =
      subst (λ (e : End). HasPort net e) (sym far) (has_port (n - 1) 0 (omega (arith, three)) (omega arith))

  pair_is : (a b c d : ℕ) → a ≡ c → b ≡ d → ◌≡◌ {A = ℕ × ℕ} (a, b) (c, d)
  pair_is a b c d h k i = (h i, k i)

  back_by : (node port : ℕ) → Kind node port
      → far_of net (far_of net node port).0 (far_of net node port).1 ≡ (node, port)
  back_by node port (Right below zeroth far) =
      ap (λ (e : End). far_of net e.0 e.1) far ∙ to_left n (node + 1) (omega arith) below
      ∙ pair_is _ _ _ _ (omega arith) (sym zeroth)
  back_by node port (Around last zeroth far) =
      ap (λ (e : End). far_of net e.0 e.1) far ∙ across n (omega (arith, three))
      ∙ pair_is _ _ _ _ (omega (arith, last)) (sym zeroth)
  back_by node port (Left some within first far) =
      ap (λ (e : End). far_of net e.0 e.1) far ∙ to_right n (node - 1) (omega (arith, some, within))
      ∙ pair_is _ _ _ _ (omega (arith, some)) (sym first)
  back_by node port (Across zeroth first far) =
      ap (λ (e : End). far_of net e.0 e.1) far ∙ to_first n (n - 1) (omega (arith, three))
      ∙ pair_is _ _ _ _ (sym zeroth) (sym first)

  -- where a port leads
  there : (node port other label : ℕ) → far_of net node port ≡ (other, label) → (far_of net node port).0 ≡ other
  there node port other label far = ap (λ (e : End). e.0) far

  no_loop_by : (node port : ℕ) → Kind node port → (far_of net node port).0 ≢ node
  no_loop_by node port (Right below zeroth far) same =
      let to : (far_of net node port).0 ≡ node + 1 = there node port (node + 1) 1 far in omega (arith, same, to)
  no_loop_by node port (Around last zeroth far) same =
      let to : (far_of net node port).0 ≡ 0 = there node port 0 1 far in omega (arith, same, to, last, three)
  no_loop_by node port (Left some within first far) same =
      let to : (far_of net node port).0 ≡ node - 1 = there node port (node - 1) 0 far in
      omega (arith, same, to, some)
  no_loop_by node port (Across zeroth first far) same =
      let to : (far_of net node port).0 ≡ n - 1 = there node port (n - 1) 0 far in
      omega (arith, same, to, zeroth, three)

  -- the two ports of a node lead to nodes that differ
  not_both : (node one other : ℕ) → node < n → one ≡ 0 → other ≡ 1
      → (far_of net node one).0 ≢ (far_of net node other).0
  not_both node one other within zeroth first same = apart_by (kind_right node one within zeroth)
      (kind_left node other within first)
    where
      apart_by : Kind node one → Kind node other → ⊥
      apart_by (Right below z far) (Left some w f far_too) =
          let to : (far_of net node one).0 ≡ node + 1 = there node one (node + 1) 1 far in
          let to_too : (far_of net node other).0 ≡ node - 1 = there node other (node - 1) 0 far_too in
          omega (arith, same, to, to_too)
      apart_by (Right below z far) (Across at f far_too) =
          let to : (far_of net node one).0 ≡ node + 1 = there node one (node + 1) 1 far in
          let to_too : (far_of net node other).0 ≡ n - 1 = there node other (n - 1) 0 far_too in
          omega (arith, same, to, to_too, at, three)
      apart_by (Around last z far) (Left some w f far_too) =
          let to : (far_of net node one).0 ≡ 0 = there node one 0 1 far in
          let to_too : (far_of net node other).0 ≡ node - 1 = there node other (node - 1) 0 far_too in
          omega (arith, same, to, to_too, last, three)
      apart_by (Around last z far) (Across at f far_too) = absurd (omega (arith, last, at, three))
      apart_by (Left some w f far) kind_too = absurd (omega (arith, f, zeroth))
      apart_by (Across at f far) kind_too = absurd (omega (arith, f, zeroth))
      apart_by kind_one (Right below z far) = absurd (omega (arith, z, first))
      apart_by kind_one (Around last z far) = absurd (omega (arith, z, first))

  simple_by : (node port other : ℕ) → port < degree_of net node → other < degree_of net node
      → (far_of net node port).0 ≡ (far_of net node other).0 → port ≡ other
  simple_by node port other has has_too same = elim (cases_lt node n) [
    | inr h ↦ absurd (let none : degree_of net node ≡ 0 = no_degree n node h in omega (arith, has, none))
    | inl h ↦
        let two : degree_of net node ≡ 2 = degree_is n node h in
        elim (eqb_tells port 0) [
          | inl k ↦ elim (eqb_tells other 0) [
            | inl l ↦ k.1 ∙ sym l.1
            | inr l ↦
                let apart : other ≢ 0 = l.1 in
                absurd (not_both node port other h k.1 (omega (arith, has_too, two, apart)) same)
          ]
          | inr k ↦
              let apart : port ≢ 0 = k.1 in
              let first : port ≡ 1 = omega (arith, has, two, apart) in
              elim (eqb_tells other 0) [
                | inl l ↦ absurd (not_both node other port h l.1 first (sym same))
                | inr l ↦ let apart_too : other ≢ 0 = l.1 in omega (arith, first, has_too, two, apart_too)
              ]
        ]
  ]

  labelled : IsPortLabelled net
  labelled = record {
    few = subst (λ (k : ℕ). 3 ≤ k) (sym (size_is n)) three;
    many = subst (λ (k : ℕ). k ≤ MAX_NODES) (sym (size_is n)) fits;
    within = λ node port has. within_by node port (kind node port has);
    back = λ node port has. back_by node port (kind node port has);
    no_loop = λ node port has. no_loop_by node port (kind node port has);
    simple = simple_by;
  }

  -- ---- it is one cycle

  leads_by : (node port other label : ℕ) → node < n → port < 2 → far_of net node port ≡ (other, label)
      → Leads net node other
  leads_by node port other label within below far =
      (port, has_port node port within below, there node port other label far)

  start : (cut : ℕ) → IsStart net n cut
  start cut = some_start net n (record {
    three = three;
    onward = λ node below. leads_by node 0 (node + 1) 1 (omega (arith, below)) (omega arith) (to_right n node below);
    back = λ node below. leads_by (node + 1) 1 node 0 below (omega arith)
        (to_left n (node + 1) (omega arith) below ∙ pair_is _ _ _ _ (omega arith) refl);
    around = leads_by 0 1 (n - 1) 0 (omega (arith, three)) (omega arith) (across n (omega (arith, three)));
  }) cut

  reaches_all : (cut : ℕ) → ReachesAll net (start cut).start cut
  reaches_all cut node below off = (start cut).reaches node (subst (λ (k : ℕ). node < k) (size_is n) below) off

  is_network : IsNetwork net
  is_network = record {
    labelled = labelled;
    connected = connected net labelled (start n).start n (subst (λ (k : ℕ). k ≤ n) (sym (size_is n)) (omega arith))
        (reaches_all n);
    biconnected = λ cut below. joined_without net labelled (start cut).start cut (reaches_all cut);
  }

pub standard_rings_are_networks : StandardRingsAreNetworks
standard_rings_are_networks n three fits = is_network n three fits

pub standard_rings_are_set : StandardRingsAreSet
standard_rings_are_set n hole setup fits is =
    let below : hole < n = is.within in
    let some : 0 < hole = is.not_home in
    let at : setup.home ≡ 0 = is.home in
    record {
      network = is_network n is.three fits;
      two = λ node within. degree_is n node (subst (λ (k : ℕ). node < k) (size_is n) within);
      home = subst (λ (k : ℕ). setup.home < k) (sym (size_is n)) (omega (arith, at, below));
      within = subst (λ (k : ℕ). hole < k) (sym (size_is n)) below;
      not_home = λ same. omega (arith, same, at, some);
      holes = is.holes;
      dark = is.dark;
      agents = is.agents;
    }
