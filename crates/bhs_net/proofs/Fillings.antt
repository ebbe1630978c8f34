use Rattle.std.proofs.Common.{◌≡◌, ℕ, ◌+◌, ◌<◌, ◌≤◌, inl, inr, ⊎_elim, Bool, refl, sym, ap, ◌∙◌}
use Rattle.std.proofs.Common.{arith, List, [], ◌∷◌, ◌++◌, length, subst, get_or, length-append, Vec, Global, Some}
use Rattle.std.proofs.Math.ListN.{get_or-append}
use Rattle.std.proofs.Math.Seq.{get_or-append_seam}
use Rattle.std.proofs.lemmas.Option.{slice_get_within}
use Rattle.std.proofs.lemmas.List.{get_or-map, get_or_past}
use Rattle.bhs_net.specs.declared.faults.TheConstants.{MIN_NODES, MAX_NODES}
use Rattle.bhs_net.specs.declared.links.Link.{Link}
use Rattle.bhs_net.specs.Links.{End, link_at, HasEnd, Joins, AreJoined}
use Rattle.bhs_net.specs.Network.{Network, nodes_of, row_of, degree_of, far_of, HasPort, IsPortLabelled, HasLinks}
use Rattle.bhs_net.specs.Faults.{IsLoop, Lists}
use Rattle.bhs_net.specs.Search.{IsMarked}
use Rattle.bhs_net.specs.Filling.{Index, index_of, places_at, place_at, AreIndexed, IsFilled, AreFilled, AllLeadApart}
use Rattle.bhs_net.proofs.Places.{below_or_at, lt_or_ge}
use Rattle.bhs_net.proofs.Listed.{HasPort-node, AreJoined-back, Joins-loop}
use Rattle.bhs_net.proofs.Made.{joined_leads, no_fault_listed}

-- the first ports of a row
pub record HasPorts (links : List Link) (node ports : ℕ) (row : List End) : Type 0 where
  pub size : length row ≡ ports
  pub joined : (port : ℕ) → port < ports → AreJoined links (node, port) (get_or row port (0, 0))

-- The pushed item is the last item of the list.
last_is : {X : Type 0} (xs : List X) (x d : X) (n : ℕ) → length xs ≡ n → get_or (xs ++ x ∷ []) n d ≡ x
last_is xs x d n size = ap (λ k. get_or (xs ++ x ∷ []) k d) (sym size) ∙ get_or-append_seam xs x [] d

pub HasPorts-more : (links : List Link) (node ports : ℕ) (row : List End) (end : End)
    → AreJoined links (node, ports) end → HasPorts links node ports row
    → HasPorts links node (ports + 1) (row ++ end ∷ [])
HasPorts-more links node ports row end joined known = record {
  size = let s = known.size in simp length-append (omega arith);
  joined = λ port h. ⊎_elim
      (λ below. subst (λ (e : End). AreJoined links (node, port) e)
      (sym (get_or-append row (end ∷ []) (0, 0) port (let s = known.size in omega arith))) (known.joined port below))
      (λ at. subst (λ k. AreJoined links (node, k) (get_or (row ++ end ∷ []) k (0, 0))) (sym at)
      (subst (λ (e : End). AreJoined links (node, ports) e) (sym (last_is row end (0, 0) ports known.size)) joined))
      (below_or_at port ports h);
}

-- the rows of the first nodes
pub record HasRows (links : List Link) (index : Index) (nodes : ℕ) (net : Network) : Type 0 where
  pub size : nodes_of net ≡ nodes
  pub rows : (node : ℕ) → node < nodes → IsFilled links node (places_at index node) (row_of net node)

pub HasRows-more : (links : List Link) (index : Index) (nodes : ℕ) (net : Network) (row : List End)
    → IsFilled links nodes (places_at index nodes) row → HasRows links index nodes net
    → HasRows links index (nodes + 1) (net ++ row ∷ [])
HasRows-more links index nodes net row filled known = record {
  size = let s = known.size in simp length-append (omega arith);
  rows = λ node h. ⊎_elim
      (λ below. subst (λ (r : List End). IsFilled links node (places_at index node) r)
      (sym (get_or-append net (row ∷ []) [] node (let s = known.size in omega arith))) (known.rows node below))
      (λ at. subst (λ k. IsFilled links k (places_at index k) (row_of (net ++ row ∷ []) k)) (sym at)
      (subst (λ (r : List End). IsFilled links nodes (places_at index nodes) r)
      (sym (last_is net row [] nodes known.size)) filled))
      (below_or_at node nodes h);
}

-- the places of the node that a loop over rows reads
pub places_read : (rows : List (Vec ℕ Global)) (node : ℕ) (row : Vec ℕ Global) → node < length rows
    → row ≡ get_or rows node row → places_at (index_of rows) node ≡ row.items
places_read rows node row h is = get_or-map (λ (r : Vec ℕ Global). r.items) rows node row [] h
    ∙ ap (λ (r : Vec ℕ Global). r.items) (sym is)

-- the first ports of a row lead to nodes with marks, and no two of them to one node
pub record KnowsHeads (nodes ports : ℕ) (row : List End) (marks : List Bool) : Type 0 where
  pub size : length marks ≡ nodes
  pub marked : (port : ℕ) → port < ports → IsMarked marks (get_or row port (0, 0)).0
  pub apart : (port other : ℕ) → port < ports → other < ports → (get_or row port (0, 0)).0 ≡ (get_or row other (0, 0)).0
      → port ≡ other

-- ---- rows that are filled by an index make a network with port labels
module _ (links : List Link) (index : Index) (net : Network) (indexed : AreIndexed links index)
    (filled : AreFilled links index net) where
  -- The index contains each link under both ends.
  indexed_for : (place : ℕ) (end : End) → place < length links → HasEnd (link_at links place) end
      → place_at index end ≡ Some place
  indexed_for place end lt (inl e) = subst (λ (q : End). place_at index q ≡ Some place) e (indexed place lt).0
  indexed_for place end lt (inr e) = subst (λ (q : End). place_at index q ≡ Some place) e (indexed place lt).1

  one_link : (place other : ℕ) (end : End) → place < length links → other < length links
      → HasEnd (link_at links place) end → HasEnd (link_at links other) end → place ≡ other
  one_link place other end lt lt' h i =
      let same : Some place ≡ Some other = sym (indexed_for place end lt h) ∙ indexed_for other end lt' i in cc

  has_port : (place : ℕ) (end : End) → place < length links → HasEnd (link_at links place) end → HasPort net end
  has_port place end lt h =
      let within : end.1 < length (places_at index end.0) = slice_get_within (places_at index end.0) end.1 place
      (indexed_for place end lt h) in
      ⊎_elim
      (λ is_node. let s = (filled.rows end.0 is_node).size in omega arith)
      (λ beyond. absurd (let none : places_at index end.0 ≡ [] = get_or_past index end.0 [] (let s = filled.size in
      omega arith) in
      let zero : length (places_at index end.0) ≡ 0 = ap (λ (n : List ℕ). length n) none in omega arith))
      (lt_or_ge end.0 (nodes_of net))

  joined : (node port : ℕ) → port < degree_of net node → AreJoined links (node, port) (far_of net node port)
  joined node port h = (filled.rows node (HasPort-node net node port h)).joined port h

  pub made_of : HasLinks net links
  made_of = record {
    near = λ place lt. (has_port place _ lt (inl refl), leads place _ _ lt (inl (refl, refl)));
    far = λ place lt. (has_port place _ lt (inr refl), leads place _ _ lt (inr (refl, refl)));
    all = joined;
    once = λ early late lt at shares. ⊎_elim
        (λ near. absurd (let e : early ≡ late = one_link early late _ (omega arith) at near (inl refl) in omega arith))
        (λ far. absurd (let e : early ≡ late = one_link early late _ (omega arith) at far (inr refl) in omega arith))
        shares;
  }
    where
      end_of : (link : Link) (end other : End) → Joins link end other → HasEnd link end
      end_of link end other (inl j) = inl j.0
      end_of link end other (inr j) = inr j.0

      -- what a link joins an end to
      one_other : (link : Link) (end a b : End) → Joins link end a → Joins link end b → a ≡ b
      one_other link end a b (inl i) (inl j) = sym i.1 ∙ j.1
      one_other link end a b (inl i) (inr j) = sym i.1 ∙ (j.0 ∙ (sym i.0 ∙ j.1))
      one_other link end a b (inr i) (inl j) = sym i.1 ∙ (j.0 ∙ (sym i.0 ∙ j.1))
      one_other link end a b (inr i) (inr j) = sym i.1 ∙ j.1

      leads : (place : ℕ) (end other : End) → place < length links → Joins (link_at links place) end other
          → far_of net end.0 end.1 ≡ other
      leads place end other lt j =
          let there = joined end.0 end.1 (has_port place end lt (end_of _ end other j)) in
          let same : there.0 ≡ place = one_link there.0 place end there.1 lt (end_of _ end _ there.2)
          (end_of _ end other j) in
          one_other (link_at links place) end (far_of net end.0 end.1) other
          (subst (λ k. Joins (link_at links k) end (far_of net end.0 end.1)) same there.2) j

  module _ (nodes : ℕ) (few : MIN_NODES ≤ nodes) (many : nodes ≤ MAX_NODES) (size : nodes_of net ≡ nodes)
      (no_loop : (place : ℕ) → ¬ IsLoop links place) (apart : AllLeadApart net) where
    labelled : IsPortLabelled net
    labelled = record {
      few = omega arith;
      many = omega arith;
      within = λ node port h. (joined_leads net links made_of (far_of net node port).0 (far_of net node port).1
          (node, port) (AreJoined-back links _ _ (joined node port h))).0;
      back = λ node port h. (joined_leads net links made_of (far_of net node port).0 (far_of net node port).1
          (node, port) (AreJoined-back links _ _ (joined node port h))).1;
      no_loop = λ node port h e. let there = joined node port h in
          no_loop there.0 (
            there.1,
            Joins-loop (link_at links there.0) (node, port) (far_of net node port) there.2
                (sym e),
          );
      simple = λ node port other h i e. apart node (HasPort-node net node port h) port other h i e;
    }

    pub Lists-from_filled : Lists nodes links net
    Lists-from_filled = record {
      no_fault = no_fault_listed nodes links net size labelled made_of;
      size = size;
      labelled = labelled;
      made_of = made_of;
    }
