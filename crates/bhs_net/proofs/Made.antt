use Rattle.std.proofs.Common.{◌≡◌, ℕ, zero, suc, ◌<◌, ◌≤◌, ◌⊎◌, inl, inr, ⊎_elim, refl, sym, ap, ◌∙◌, arith, List, []}
use Rattle.std.proofs.Common.{length, subst}
use Rattle.std.proofs.lemmas.List.{ext_get_or}
use Rattle.bhs_net.specs.declared.faults.NetFault.{NetFault}
use Rattle.bhs_net.specs.declared.faults.NetFault.TheVariants.{Nodes, Node, Loop, Double, PortTwice, PortGap, Apart}
use Rattle.bhs_net.specs.declared.faults.NetFault.TheVariants.{CutNode, Memory}
use Rattle.bhs_net.specs.declared.links.Link.{Link}
use Rattle.bhs_net.specs.Paths.{IsPath, Without}
use Rattle.bhs_net.specs.Links.{End, near_end, far_end, link_at, HasEnd, Joins, SharesEnd, IsListed, AreJoined}
use Rattle.bhs_net.specs.Links.{AreLinked}
use Rattle.bhs_net.specs.Network.{Network, nodes_of, row_of, degree_of, far_of, HasPort, Leads, IsPortLabelled}
use Rattle.bhs_net.specs.Network.{IsConnected, HasLinks, Makes}
use Rattle.bhs_net.specs.Faults.{IsStray, IsLoop, IsDouble, IsPortTwice, IsGap, IsApart, IsCut, Holds, HasNoFault}
use Rattle.bhs_net.specs.Faults.{Refuses, Lists}
use Rattle.bhs_net.specs.Search.{IsApartIn, IsCutIn}
use Rattle.bhs_net.specs.Listing.{TellsLeast}
use Rattle.bhs_net.proofs.Listed.{HasPort-node, IsListed-from_joined}
use Rattle.bhs_net.proofs.Order.{NoneBelow, NoneBelow-more, Refuses-from_first, Refuses-from_least}
use Rattle.bhs_net.proofs.Walks.{IsPath-along, not_cut}

-- the links of a network lead as its ports do
module _ (net : Network) (links : List Link) (made_of : HasLinks net links) where
  pub joined_leads : (node port : ℕ) (other : End) → AreJoined links (node, port) other → (port < degree_of net node)
      × (far_of net node port ≡ other)
  joined_leads node port other joined = pick joined.2
    where
      pick : Joins (link_at links joined.0) (node, port) other → (port < degree_of net node)
          × (far_of net node port ≡ other)
      pick (inl j) = let near = made_of.near joined.0 joined.1 in (
        subst (λ (q : End). q.1 < degree_of net q.0) j.0 near.0,
        ap (λ (q : End). far_of net q.0 q.1) (sym j.0)
            ∙ (near.1 ∙ j.1),
      )
      pick (inr j) = let far = made_of.far joined.0 joined.1 in (
        subst (λ (q : End). q.1 < degree_of net q.0) j.0 far.0,
        ap (λ (q : End). far_of net q.0 q.1) (sym j.0)
            ∙ (far.1 ∙ j.1),
      )

  pub Leads-from_linked : (node other : ℕ) → AreLinked links node other → Leads net node other
  Leads-from_linked node other linked = let port = joined_leads node linked.0 (other, linked.1) linked.2 in
      (linked.0, port.0, ap (λ (q : End). q.0) port.1)

  pub AreLinked-from_leads : (node other : ℕ) → Leads net node other → AreLinked links node other
  AreLinked-from_leads node other leads = let far = far_of net node leads.0 in (
    leads.0,
    far.1,
    subst (λ d. AreJoined links (node, leads.0) (d, far.1)) leads.2
        (made_of.all node leads.0 leads.1),
  )

  path_in_links : (node other : ℕ) → IsPath (Leads net) node other → IsPath (AreLinked links) node other
  path_in_links = IsPath-along (Leads net) (AreLinked links) AreLinked-from_leads

  path_in_net : (node other : ℕ) → IsPath (AreLinked links) node other → IsPath (Leads net) node other
  path_in_net = IsPath-along (AreLinked links) (Leads net) Leads-from_linked

  without_in_links : (cut node other : ℕ) → IsPath (Without cut (Leads net)) node other
      → IsPath (Without cut (AreLinked links)) node other
  without_in_links cut = IsPath-along (Without cut (Leads net)) (Without cut (AreLinked links))
      (λ a b step. (AreLinked-from_leads a b step.0, step.1, step.2))

  without_in_net : (cut node other : ℕ) → IsPath (Without cut (AreLinked links)) node other
      → IsPath (Without cut (Leads net)) node other
  without_in_net cut = IsPath-along (Without cut (AreLinked links)) (Without cut (Leads net))
      (λ a b step. (Leads-from_linked a b step.0, step.1, step.2))

  -- what a network lacks, its links lack
  module _ (nodes : ℕ) (size : nodes_of net ≡ nodes) where
    pub IsApart-from_net : IsApartIn net → IsApart nodes links
    IsApart-from_net is = (
      is.0,
      is.1,
      (let lt : is.0 < nodes_of net = is.2 in omega arith),
      (let lt : is.1 < nodes_of net = is.3 in omega arith),
      λ path. is.4 (path_in_net is.0 is.1 path),
    )

    pub not_apart : IsConnected net → ¬ IsApart nodes links
    not_apart all is = is.4 (path_in_links is.0 is.1
        (all is.0 is.1 (let lt : is.0 < nodes = is.2 in omega arith) (let lt : is.1 < nodes = is.3 in omega arith)))

    pub IsCut-from_net : (cut : ℕ) → IsCutIn net cut → IsCut nodes links cut
    IsCut-from_net cut is = (
      (let lt : cut < nodes_of net = is.0 in omega arith),
      (
        is.1.0,
        is.1.1,
        (let lt : is.1.0 < nodes_of net = is.1.2 in omega arith),
        (let lt : is.1.1 < nodes_of net = is.1.3 in omega arith),
        is.1.4,
        is.1.5,
        λ path. is.1.6
            (without_in_net cut is.1.0 is.1.1 path),
      ),
    )

    pub IsCutIn-from_links : (cut : ℕ) → IsCut nodes links cut → IsCutIn net cut
    IsCutIn-from_links cut is = (
      (let lt : cut < nodes = is.0 in omega arith),
      (
        is.1.0,
        is.1.1,
        (let lt : is.1.0 < nodes = is.1.2 in omega arith),
        (let lt : is.1.1 < nodes = is.1.3 in omega arith),
        is.1.4,
        is.1.5,
        λ path. is.1.6
            (without_in_links cut is.1.0 is.1.1 path),
      ),
    )

-- links of a network with port labels have no fault in their list
module _ (nodes : ℕ) (links : List Link) (net : Network) (size : nodes_of net ≡ nodes) (labelled : IsPortLabelled net)
    (made_of : HasLinks net links) where
  not_stray : (place : ℕ) → ¬ IsStray nodes links place
  not_stray place stray =
      let near = HasPort-node net _ _ (made_of.near place stray.0).0 in
      let far = HasPort-node net _ _ (made_of.far place stray.0).0 in
      ⊎_elim (λ v. omega arith) (λ w. omega arith) stray.1

  not_loop : (place : ℕ) → ¬ IsLoop links place
  not_loop place loop =
      let near = made_of.near place loop.0 in
      labelled.no_loop _ _ near.0 (ap (λ (q : End). q.0) near.1 ∙ sym loop.1)

  -- two ports of a node that lead to one node are one port, so the links share an end
  not_double : (place : ℕ) → ¬ IsDouble links place
  not_double place double = ⊎_elim
      (λ same. twice (inl (inl (ends (near_at early at_early) (near_at place double.0) same.0 same.1))))
      (λ crossed. twice (inr (inl (ends (near_at early at_early) (far_at place double.0) crossed.0 crossed.1))))
      double.1.2
    where
      early : ℕ
      early = double.1.0

      at_early : early < length links
      at_early = let lt : early < place = double.1.1 in let at : place < length links = double.0 in omega arith

      twice : ¬ SharesEnd (link_at links early) (link_at links place)
      twice shares = made_of.once early place double.1.1 double.0 shares

      near_at : (k : ℕ) → k < length links → HasPort net (near_end (link_at links k))
          × (far_of net (link_at links k).v (link_at links k).p ≡ far_end (link_at links k))
      near_at k lt = made_of.near k lt

      far_at : (k : ℕ) → k < length links → HasPort net (far_end (link_at links k))
          × (far_of net (link_at links k).w (link_at links k).q ≡ near_end (link_at links k))
      far_at k lt = made_of.far k lt

      both : {v p w q : ℕ} → v ≡ w → p ≡ q → ◌≡◌ {A = End} (v, p) (w, q)
      both e f = cc

      ends : {a b c d : End} → HasPort net a × (far_of net a.0 a.1 ≡ b) → HasPort net c × (far_of net c.0 c.1 ≡ d)
          → a.0 ≡ c.0 → b.0 ≡ d.0 → a ≡ c
      ends {a} {b} {c} {d} p q same_node same_other =
          let there : a.1 < degree_of net c.0 = subst (λ n. a.1 < degree_of net n) same_node p.0 in
          let leads : (far_of net c.0 a.1).0 ≡ (far_of net c.0 c.1).0 =
          ap (λ n. (far_of net n a.1).0) (sym same_node)
          ∙ (ap (λ (e : End). e.0) p.1 ∙ (same_other ∙ sym (ap (λ (e : End). e.0) q.1))) in
          both same_node (labelled.simple c.0 a.1 c.1 there q.0 leads)

  not_twice : (place : ℕ) → ¬ IsPortTwice links place
  not_twice place twice = made_of.once twice.1.0 place twice.1.1 twice.0 twice.1.2

  listed_port : (end : End) → IsListed links end → HasPort net end
  listed_port end listed = pick listed.2
    where
      pick : HasEnd (link_at links listed.0) end → HasPort net end
      pick (inl e) = subst (λ (q : End). HasPort net q) e (made_of.near listed.0 listed.1).0
      pick (inr e) = subst (λ (q : End). HasPort net q) e (made_of.far listed.0 listed.1).0

  not_gap : (node : ℕ) → ¬ IsGap links node
  not_gap node gap =
      let port : gap.0 < degree_of net node = listed_port (node, gap.0) gap.2 in
      gap.4 (IsListed-from_joined links _ _ (made_of.all node gap.1
      (let lower : gap.1 < gap.0 = gap.3 in omega arith)))

  pub no_fault_listed : HasNoFault nodes links 6
  no_fault_listed Nodes h = λ wrong. let few = labelled.few in let many = labelled.many in
      ⊎_elim (λ low. omega arith) (λ high. omega arith) wrong
  no_fault_listed (Node link) h = not_stray link
  no_fault_listed (Loop link) h = not_loop link
  no_fault_listed (Double link) h = not_double link
  no_fault_listed (PortTwice link) h = not_twice link
  no_fault_listed (PortGap node) h = not_gap node
  no_fault_listed Apart h = absurd (omega arith)
  no_fault_listed (CutNode node) h = absurd (omega arith)
  no_fault_listed Memory h = λ never. never

-- each fault refutes that the links make a network
module _ (nodes : ℕ) (links : List Link) (net : Network) (makes : Makes nodes links net) where
  listed : HasNoFault nodes links 6
  listed = no_fault_listed nodes links net makes.size makes.network.labelled makes.made_of

  not_cut_node : (node : ℕ) → ¬ IsCut nodes links node
  not_cut_node node cut =
      let is = IsCutIn-from_links net links makes.made_of nodes makes.size node cut in
      not_cut net node (makes.network.biconnected node is.0) is

  pub no_fault : (fault : NetFault) → ¬ Holds nodes links fault
  no_fault Nodes = listed Nodes (omega arith)
  no_fault (Node link) = listed (Node link) (omega arith)
  no_fault (Loop link) = listed (Loop link) (omega arith)
  no_fault (Double link) = listed (Double link) (omega arith)
  no_fault (PortTwice link) = listed (PortTwice link) (omega arith)
  no_fault (PortGap node) = listed (PortGap node) (omega arith)
  no_fault Apart = not_apart net links makes.made_of nodes makes.size makes.network.connected
  no_fault (CutNode node) = not_cut_node node
  no_fault Memory = λ never. never

-- a refusal by what the search has found
pub Refuses-from_paths : (nodes : ℕ) (links : List Link) (net : Network) (fault : NetFault) → Lists nodes links net
    → (fault ≡ Memory) ⊎ (((fault ≡ Apart) × IsApartIn net)
    ⊎ (IsConnected net × TellsLeast CutNode (IsCutIn net) fault)) → Refuses nodes links fault
Refuses-from_paths nodes links net fault lists told =
    let none : NoneBelow nodes links 7 = λ early h. lists.no_fault early (omega arith) in
    ⊎_elim
    (λ memory. inl memory)
    (λ rest. ⊎_elim
    (λ apart. Refuses-from_first nodes links 7 0 fault apart.0 refl refl none
    (IsApart-from_net net links lists.made_of nodes lists.size apart.1) (λ early lt. absurd (omega arith)))
    (λ cut. Refuses-from_least nodes links 8 fault (λ _. refl) (λ _. refl)
    (NoneBelow-more nodes links 7 none (λ place. not_apart net links lists.made_of nodes lists.size cut.0)) (
      cut.1.0,
      cut.1.1,
      (
        IsCut-from_net net links lists.made_of nodes lists.size cut.1.0 cut.1.2.0,
        λ early lt is. cut.1.2.1 early lt (IsCutIn-from_links net links lists.made_of nodes lists.size early is),
      ),
    ))
    rest)
    told

-- ---- one list of links makes one network
le_by_below : (a b : ℕ) → ((port : ℕ) → port < a → port < b) → a ≤ b
le_by_below zero b all = omega arith
le_by_below (suc a) b all = let last : a < b = all a (omega arith) in omega arith

module _ (net other : Network) (links : List Link) (made_of : HasLinks net links) (too : HasLinks other links) where
  -- A port of one network is a port of the equal network and leads to the same end.
  same_port : (node port : ℕ) → port < degree_of net node → (port < degree_of other node)
      × (far_of other node port ≡ far_of net node port)
  same_port node port h = joined_leads other links too node port (far_of net node port) (made_of.all node port h)

module _ (nodes : ℕ) (links : List Link) (net other : Network) (makes : Makes nodes links net)
    (too : Makes nodes links other) where
  same_degree : (node : ℕ) → degree_of net node ≡ degree_of other node
  same_degree node =
      let le = le_by_below (degree_of net node) (degree_of other node)
      (λ port h. (same_port net other links makes.made_of too.made_of node port h).0) in
      let ge = le_by_below (degree_of other node) (degree_of net node)
      (λ port h. (same_port other net links too.made_of makes.made_of node port h).0) in
      omega arith

  pub same_network : net ≡ other
  same_network = ext_get_or [] net other (makes.size ∙ sym too.size) (λ node h.
      ext_get_or (0, 0) (row_of net node) (row_of other node) (same_degree node)
      (λ port i. sym (same_port net other links makes.made_of too.made_of node port i).1))
