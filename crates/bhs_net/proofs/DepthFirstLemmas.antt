-- An order of the nodes by places shows that no node cuts a network.
use Rattle.std.proofs.Common.{◌≡◌, ◌≢◌, ℕ, zero, suc, ◌+◌, ◌<◌, ◌≤◌, ◌⊎◌, inl, inr, ⊎_elim, refl, sym, ap, ◌∙◌, arith}
use Rattle.std.proofs.Common.{List, length, subst, get_or, Vec, Global}
use Rattle.std.specs.Prelude.{slice_index_or}
use Rattle.std.proofs.lemmas.List.{length-map}
use Rattle.bhs_net.specs.Paths.{IsPath, Without}
use Rattle.bhs_net.specs.Links.{End}
use Rattle.bhs_net.specs.Network.{Network, network_of, nodes_of, row_of, far_of, Leads, IsPortLabelled, IsNetwork}
use Rattle.bhs_net.specs.Network.{AreJoinedWithout}
use Rattle.bhs_net.specs.DepthFirst.{place_in, LeadsTo, LeadsOn}
use Rattle.bhs_net.proofs.Degrees.{row_of-network_of}
use Rattle.bhs_net.proofs.Places.{below_or_at, lt_eq_gt}
use Rattle.bhs_net.proofs.Walks.{IsPath-none, IsPath-more, IsPath-append, IsPath-back, Leads-to, Leads-back}
use Rattle.bhs_net.proofs.Walks.{Without-back}

-- some port of the first ones of a row leads to a node whose place is such
abbrev pub LeadsBefore : List End → List ℕ → ℕ → (ℕ → Type 0) → Type 0
LeadsBefore row places ports P = (port : ℕ) × (port < ports)
    × P (place_in places (slice_index_or row port (0, 0)).0)

-- a node leads to another whose place is such
abbrev pub Goes : Network → (ℕ → ℕ) → ℕ → (ℕ → Type 0) → Type 0
Goes net place node P = (other : ℕ) × Leads net node other × P (place other)

-- Every node has a neighbour at a lower place, except the first node; a neighbour at a higher place, except the last;
-- and the first and the last node are neighbours.
pub record IsPlaced (net : Network) (place : ℕ → ℕ) (last node : ℕ) : Type 0 where
  pub within : place node ≤ last
  pub down : (place node ≡ 0) ⊎ Goes net place node (λ other. other < place node)
  pub up : (place node ≡ last) ⊎ Goes net place node (λ other. place node < other)
  pub around : (place node ≢ 0) ⊎ Goes net place node (λ other. other ≡ last)

zero_or_more : (n : ℕ) → (n ≡ 0) ⊎ (0 < n)
zero_or_more n = grind arith

module _ (net : Network) (labelled : IsPortLabelled net) (place node_at : ℕ → ℕ) (last : ℕ)
    (is_at : (node : ℕ) → node < nodes_of net → node_at (place node) ≡ node)
    (placed : (node : ℕ) → node < nodes_of net → IsPlaced net place last node) where
  -- Places are injective: two nodes at the same place are equal.
  same_node : (node other : ℕ) → node < nodes_of net → other < nodes_of net → place node ≡ place other → node ≡ other
  same_node node other lt lt' e = sym (is_at node lt) ∙ (ap node_at e ∙ is_at other lt')

  -- a step to another place keeps off a node at a third
  step : (cut node other : ℕ) → Leads net node other → place node ≢ place cut → place other ≢ place cut
      → IsPath (Without cut (Leads net)) node other
  step cut node other leads off off' = IsPath-more (Without cut (Leads net)) node node other
      (IsPath-none (Without cut (Leads net)) node) (leads, (λ e. off (ap place e)), (λ e. off' (ap place e)))

  -- a way down to the first place keeps off all that is higher
  abbrev Down : ℕ → Type 0
  Down node = (end : ℕ) × (end < nodes_of net) × (place end ≡ 0) × IsPath (Leads net) node end
      × ((cut : ℕ) → place node < place cut → IsPath (Without cut (Leads net)) node end)

  down : (most node : ℕ) → node < nodes_of net → place node ≤ most → Down node
  down zero node lt le = (
    node,
    lt,
    omega arith,
    IsPath-none (Leads net) node,
    λ cut h. IsPath-none (Without cut (Leads net)) node,
  )
  down (suc most) node lt le = ⊎_elim
      (λ first. (node, lt, first, IsPath-none (Leads net) node, λ cut h. IsPath-none (Without cut (Leads net)) node))
      (λ goes.
      let lower : place goes.0 < place node = goes.2 in
      let rest = down most goes.0 (Leads-to net labelled node goes.0 goes.1) (omega arith) in (
        rest.0,
        rest.1,
        rest.2,
        IsPath-append (Leads net) node goes.0 rest.0
            (IsPath-more (Leads net) node node goes.0 (IsPath-none (Leads net) node) goes.1) rest.3,
        λ cut h. IsPath-append (Without cut (Leads net)) node goes.0 rest.0
            (step cut node goes.0 goes.1 (λ e. omega arith) (λ e. omega arith)) (rest.4 cut (omega arith)),
      ))
      (placed node lt).down

  -- a way up to the last place keeps off all that is lower
  abbrev Up : ℕ → Type 0
  Up node = (end : ℕ) × (end < nodes_of net) × (place end ≡ last)
      × ((cut : ℕ) → place cut < place node → IsPath (Without cut (Leads net)) node end)

  up : (most node : ℕ) → node < nodes_of net → last ≤ place node + most → Up node
  up zero node lt le = (
    node,
    lt,
    (let w = (placed node lt).within in omega arith),
    λ cut h. IsPath-none (Without cut (Leads net)) node,
  )
  up (suc most) node lt le = ⊎_elim
      (λ at. (node, lt, at, λ cut h. IsPath-none (Without cut (Leads net)) node))
      (λ goes.
      let higher : place node < place goes.0 = goes.2 in
      let rest = up most goes.0 (Leads-to net labelled node goes.0 goes.1) (omega arith) in (
        rest.0,
        rest.1,
        rest.2,
        λ cut h. IsPath-append (Without cut (Leads net)) node goes.0 rest.0
            (step cut node goes.0 goes.1 (λ e. omega arith) (λ e. omega arith)) (rest.3 cut (omega arith)),
      ))
      (placed node lt).up

  -- the first and the last node, which are neighbours
  module _ (first other : ℕ) (first_in : first < nodes_of net) (is_first : place first ≡ 0)
      (leads : Leads net first other) (is_last : place other ≡ last) where
    other_in : other < nodes_of net
    other_in = Leads-to net labelled first other leads

    -- each node but the one that is removed leads to the last, where the first is removed
    to_last : (cut node : ℕ) → place cut ≡ 0 → node < nodes_of net → place node ≢ place cut
        → IsPath (Without cut (Leads net)) node other
    to_last cut node zero_is lt off =
        let way = up last node lt (omega arith) in
        subst (λ d. IsPath (Without cut (Leads net)) node d)
        (same_node way.0 other way.1 other_in (way.2 ∙ sym is_last))
        (way.3 cut (let o : place node ≢ place cut = off in omega arith))

    -- A node other than the first reaches the first node without the cut node.
    to_first : (cut node : ℕ) → 0 < place cut → node < nodes_of net → place node ≢ place cut
        → IsPath (Without cut (Leads net)) node first
    to_first cut node positive lt off = ⊎_elim
        (λ lower. let way = down (place node) node lt (omega arith) in
        subst (λ d. IsPath (Without cut (Leads net)) node d)
        (same_node way.0 first way.1 first_in (way.2 ∙ sym is_first)) (way.4 cut lower))
        (λ rest. ⊎_elim
        (λ at. absurd (off at))
        (λ higher.
        let way = up last node lt (omega arith) in
        let within : place node ≤ last = (placed node lt).within in
        IsPath-append (Without cut (Leads net)) node other first
        (subst (λ d. IsPath (Without cut (Leads net)) node d)
        (same_node way.0 other way.1 other_in (way.2 ∙ sym is_last)) (way.3 cut higher))
        (step cut other first (Leads-back net labelled first other leads) (λ e. omega arith) (λ e. omega arith)))
        rest)
        (lt_eq_gt (place node) (place cut))

    meet : (cut goal a b : ℕ) → IsPath (Without cut (Leads net)) a goal → IsPath (Without cut (Leads net)) b goal
        → IsPath (Without cut (Leads net)) a b
    meet cut goal a b p q = IsPath-append (Without cut (Leads net)) a goal b p
        (IsPath-back (Without cut (Leads net)) (Without-back net labelled cut) b goal q)

    apart : (cut node : ℕ) → cut < nodes_of net → node < nodes_of net → node ≢ cut → place node ≢ place cut
    apart cut node lt lt' h e = h (same_node node cut lt' lt e)

    joined_without : (cut : ℕ) → cut < nodes_of net → AreJoinedWithout net cut
    joined_without cut lt = λ a b at bt off off'. ⊎_elim
        (λ first_is. meet cut other a b (to_last cut a (omega arith) at (apart cut a lt at off))
        (to_last cut b (omega arith) bt (apart cut b lt bt off')))
        (λ positive. meet cut first a b (to_first cut a (omega arith) at (apart cut a lt at off))
        (to_first cut b (omega arith) bt (apart cut b lt bt off')))
        (zero_or_more (place cut))

    connected_by : (a b : ℕ) → a < nodes_of net → b < nodes_of net → IsPath (Leads net) a b
    connected_by a b at bt =
        let p = down (place a) a at (omega arith) in
        let q = down (place b) b bt (omega arith) in
        IsPath-append (Leads net) a p.0 b p.3
        (IsPath-back (Leads net) (Leads-back net labelled) b p.0
        (subst (λ d. IsPath (Leads net) b d) (same_node q.0 p.0 q.1 p.1 (q.2 ∙ sym p.2)) q.3))

    network : IsNetwork net
    network = record { labelled = labelled; connected = connected_by; biconnected = joined_without }

  pub IsNetwork-from_placed : IsNetwork net
  IsNetwork-from_placed =
      let few : 3 ≤ nodes_of net = labelled.few in
      let first = down (place 0) 0 (omega arith) (omega arith) in ⊎_elim
      (λ off. absurd (off first.2))
      (λ goes. network first.0 goes.0 first.1 first.2 goes.1 goes.2)
      (placed first.0 first.1).around

-- a node whose row leads on is placed
pub IsPlaced-from_row : (rows : List (Vec End Global)) (node : ℕ) (row : Vec End Global) (places : List ℕ) (last : ℕ)
    → node < length rows → row ≡ get_or rows node row → place_in places node ≤ last
    → LeadsOn row.items places (place_in places node) last → IsPlaced (network_of rows) (place_in places) last node
IsPlaced-from_row rows node row places last lt is within leads =
    let net = network_of rows in
    let goes : (P : ℕ → Type 0) → LeadsTo row.items places P → Goes net (place_in places) node P = λ P h.
    let there : LeadsTo (row_of net node) places P =
    subst (λ (r : List End). LeadsTo r places P) (sym (row_of-network_of rows node row lt is)) h in
    ((far_of net node there.0).0, (there.0, there.1, refl), there.2) in
    record {
      within = within;
      down = ⊎_elim (λ e. inl e) (λ h. inr (goes (λ other. other < place_in places node) h)) leads.down;
      up = ⊎_elim (λ e. inl e) (λ h. inr (goes (λ other. place_in places node < other) h)) leads.up;
      around = ⊎_elim (λ e. inl e) (λ h. inr (goes (λ other. other ≡ last) h)) leads.around;
    }

-- the first nodes are placed, and stand at their places
pub record ArePlaced (rows : List (Vec End Global)) (nodes places : List ℕ) (last seen : ℕ) : Type 0 where
  pub placed : (node : ℕ) → node < seen → IsPlaced (network_of rows) (place_in places) last node
  pub at : (node : ℕ) → node < seen → place_in nodes (place_in places node) ≡ node

pub ArePlaced-more : (rows : List (Vec End Global)) (nodes places : List ℕ) (last seen : ℕ) (row : Vec End Global)
    → seen < length rows → row ≡ get_or rows seen row → place_in places seen ≤ last
    → place_in nodes (place_in places seen) ≡ seen → LeadsOn row.items places (place_in places seen) last
    → ArePlaced rows nodes places last seen → ArePlaced rows nodes places last (seen + 1)
ArePlaced-more rows nodes places last seen row lt is within here leads known = record {
  placed = λ node h. ⊎_elim
      (λ below. known.placed node below)
      (λ at. subst (λ k. IsPlaced (network_of rows) (place_in places) last k) (sym at)
      (IsPlaced-from_row rows seen row places last lt is within leads))
      (below_or_at node seen h);
  at = λ node h. ⊎_elim
      (λ below. known.at node below)
      (λ at. subst (λ k. place_in nodes (place_in places k) ≡ k) (sym at) here)
      (below_or_at node seen h);
}

pub IsNetwork-from_all : (rows : List (Vec End Global)) (nodes places : List ℕ) (last seen : ℕ)
    → IsPortLabelled (network_of rows) → length rows ≤ seen → ArePlaced rows nodes places last seen
    → IsNetwork (network_of rows)
IsNetwork-from_all rows nodes places last seen labelled all known =
    let size = length-map rows (λ (r : Vec End Global). r.items) in
    IsNetwork-from_placed (network_of rows) labelled (place_in places) (place_in nodes) last
    (λ node lt. known.at node (let l : node < nodes_of (network_of rows) = lt in omega arith))
    (λ node lt. known.placed node (let l : node < nodes_of (network_of rows) = lt in omega arith))
