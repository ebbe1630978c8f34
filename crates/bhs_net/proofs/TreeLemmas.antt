-- A tree of a search shows of a node that it cuts nothing, if ways lead past it.
use Rattle.std.proofs.Common.{◌≡◌, ◌≢◌, ℕ, zero, suc, ◌+◌, ◌<◌, ◌≤◌, ◌⊎◌, ⊎_elim, sym, ap, ◌∙◌, arith}
use Rattle.std.proofs.Common.{List, length, subst, get_or, Vec, Global}
use Rattle.bhs_net.specs.declared.depth_first_search.DepthFirst.{DepthFirst}
use Rattle.bhs_net.specs.Links.{End}
use Rattle.bhs_net.specs.Paths.{IsPath, Without}
use Rattle.bhs_net.specs.Network.{Network, network_of, nodes_of, row_of, Leads, IsPortLabelled, AreJoinedWithout}
use Rattle.bhs_net.specs.DepthFirst.{place_in}
use Rattle.bhs_net.specs.Trees.{Hangs, IsTree, AllLeadPast, place, parent, low, escape}
use Rattle.bhs_net.proofs.Degrees.{row_of-network_of}
use Rattle.bhs_net.proofs.Places.{below_or_at}
use Rattle.bhs_net.proofs.Walks.{IsPath-none, IsPath-more, IsPath-append, IsPath-back, Leads-to, Without-back}

same_or_other : (a b : ℕ) → (a ≡ b) ⊎ (a ≢ b)
same_or_other a b = grind arith

module _ (net : Network) (labelled : IsPortLabelled net) (search : DepthFirst) (tree : IsTree net search)
    (cut : ℕ) where
  abbrev Way : ℕ → ℕ → Type 0
  Way = IsPath (Without cut (Leads net))

  step : (node other : ℕ) → Leads net node other → node ≢ cut → other ≢ cut → Way node other
  step node other leads off off' = IsPath-more (Without cut (Leads net)) node node other
      (IsPath-none (Without cut (Leads net)) node) (leads, off, off')

  -- Nodes at different places are different.
  off_by : (node : ℕ) → place search node ≢ place search cut → node ≢ cut
  off_by node differ same = differ (ap (place search) same)

  not_first : (node : ℕ) → 0 < place search node → node ≢ 0
  not_first node above same =
      let at : place search node ≡ 0 = ap (place search) same ∙ tree.root in omega arith

  -- ---- another node than the first is removed

  -- A path to the low point of a node that was discovered below the cut node.
  abbrev Out : ℕ → Type 0
  Out node = (end : ℕ) × (end < nodes_of net) × (place search end ≡ low search node) × Way node end

  out : (most node : ℕ) → node < nodes_of net → place search cut < place search node
      → low search node < place search cut → nodes_of net ≤ place search node + most → Out node
  out zero node lt above below few =
      let hung = tree.hung node lt (not_first node (omega arith)) in
      absurd (let within = hung.within in omega arith)
  out (suc most) node lt above below few =
      let hung = tree.hung node lt (not_first node (omega arith)) in
      let next : ℕ = escape search node in
      let next_in : next < nodes_of net = Leads-to net labelled node next hung.out in
      let off : node ≢ cut = off_by node (λ e. omega arith) in ⊎_elim
      (λ direct. (next, next_in, direct, step node next hung.out off (off_by next (λ e. omega arith))))
      (λ behind.
      let same : low search next ≡ low search node = behind.0 in
      let later : place search node < place search next = behind.1 in
      let rest = out most next next_in (omega arith) (omega arith) (omega arith) in (
        rest.0,
        rest.1,
        rest.2 ∙ same,
        IsPath-append (Without cut (Leads net)) node next rest.0
            (step node next hung.out off (off_by next (λ e. omega arith))) rest.3,
      ))
      hung.lowest

  module _ (other_cut : cut ≢ 0) (past : AllLeadPast search (nodes_of net) cut) where
    low_past : (node : ℕ) → node < nodes_of net → node ≢ 0 → parent search node ≡ cut
        → low search node < place search cut
    low_past node lt other is = ⊎_elim
        (λ first. absurd (other_cut first.0))
        (λ below. below.1)
        (past node lt other is)

    to_first : (most node : ℕ) → node < nodes_of net → node ≢ cut → place search node ≤ most → Way node 0
    to_first zero node lt off few = ⊎_elim
        (λ is. subst (Way node) is (IsPath-none (Without cut (Leads net)) node))
        (λ other. absurd (let later = (tree.hung node lt other).later in omega arith))
        (same_or_other node 0)
    to_first (suc most) node lt off few = ⊎_elim
        (λ is. subst (Way node) is (IsPath-none (Without cut (Leads net)) node))
        (λ other.
        let hung = tree.hung node lt other in
        let later = hung.later in
        let up : ℕ = parent search node in ⊎_elim
        (λ at.
        let found : place search cut < place search node =
        subst (λ k. place search k < place search node) at later in
        let way = out (nodes_of net) node lt found (low_past node lt other at) (omega arith) in
        let below = low_past node lt other at in
        let end_at = way.2 in
        IsPath-append (Without cut (Leads net)) node way.0 0 way.3
        (to_first most way.0 way.1 (off_by way.0 (λ e. omega arith)) (omega arith)))
        (λ free. IsPath-append (Without cut (Leads net)) node up 0 (step node up hung.up off free)
        (to_first most up (Leads-to net labelled node up hung.up) free (omega arith)))
        (same_or_other up cut))
        (same_or_other node 0)

  -- ---- the first node is removed

  module _ (first_cut : cut ≡ 0) (past : AllLeadPast search (nodes_of net) cut) where
    only_child : (node : ℕ) → node < nodes_of net → node ≢ 0 → parent search node ≡ cut
        → node ≡ place_in search.found 1
    only_child node lt other is = ⊎_elim
        (λ first. first.1)
        (λ below. absurd (below.0 first_cut))
        (past node lt other is)

    not_cut_here : (node : ℕ) → node ≢ cut → node ≢ 0
    not_cut_here node off same = off (same ∙ sym first_cut)

    to_second : (most node : ℕ) → node < nodes_of net → node ≢ cut → place search node ≤ most
        → Way node (place_in search.found 1)
    to_second zero node lt off few =
        absurd (let later = (tree.hung node lt (not_cut_here node off)).later in omega arith)
    to_second (suc most) node lt off few =
        let other = not_cut_here node off in
        let hung = tree.hung node lt other in
        let later = hung.later in
        let up : ℕ = parent search node in ⊎_elim
        (λ at. subst (Way node) (only_child node lt other at) (IsPath-none (Without cut (Leads net)) node))
        (λ free. IsPath-append (Without cut (Leads net)) node up (place_in search.found 1)
        (step node up hung.up off free)
        (to_second most up (Leads-to net labelled node up hung.up) free (omega arith)))
        (same_or_other up cut)

  -- ---- either

  meet : (goal a b : ℕ) → Way a goal → Way b goal → Way a b
  meet goal a b p q = IsPath-append (Without cut (Leads net)) a goal b p
      (IsPath-back (Without cut (Leads net)) (Without-back net labelled cut) b goal q)

  pub joined_past : AllLeadPast search (nodes_of net) cut → AreJoinedWithout net cut
  joined_past past = λ a b at bt off off'. ⊎_elim
      (λ first. meet (place_in search.found 1) a b (to_second first past (place search a) a at off (omega arith))
      (to_second first past (place search b) b bt off' (omega arith)))
      (λ other. meet 0 a b (to_first other past (place search a) a at off (omega arith))
      (to_first other past (place search b) b bt off' (omega arith)))
      (same_or_other cut 0)

-- ---- the rows

-- the first rows hang in the tree
abbrev pub AllHang : List (Vec End Global) → DepthFirst → (seen : ℕ) → Type 0
AllHang rows search seen = (node : ℕ) → node < seen → node ≢ 0
    → Hangs (row_of (network_of rows) node) search (nodes_of (network_of rows)) node

pub AllHang-more : (rows : List (Vec End Global)) (search : DepthFirst) (seen : ℕ) (row : Vec End Global)
    → seen < length rows → row ≡ get_or rows seen row
    → (seen ≢ 0 → Hangs row.items search (nodes_of (network_of rows)) seen)
    → AllHang rows search seen → AllHang rows search (seen + 1)
AllHang-more rows search seen row lt is here known = λ node below other. ⊎_elim
    (λ earlier. known node earlier other)
    (λ at. subst (λ k. Hangs (row_of (network_of rows) k) search (nodes_of (network_of rows)) k) (sym at)
    (subst (λ (r : List End). Hangs r search (nodes_of (network_of rows)) seen)
    (sym (row_of-network_of rows seen row lt is))
    (here (λ e. other (at ∙ e)))))
    (below_or_at node seen below)
