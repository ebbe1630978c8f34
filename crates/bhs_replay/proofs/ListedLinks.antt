-- The links that a network lists: no end stands there twice, and they make the network.
use Rattle.std.proofs.Common.{◌≡◌, ◌≢◌, ◌⊎◌, inl, inr, ℕ, zero, suc, ◌+◌, ◌<◌, ◌≤◌, Bool, length, List, refl, sym}
use Rattle.std.proofs.Common.{subst, ap, ◌∙◌, arith}
use Rattle.std.specs.Prelude.{map}
use Rattle.std.specs.List.{range_with_len, flat_map}
use Rattle.std.proofs.lemmas.Bool.{and_parts, and_from, ltb-true, lt-ltb}
use Rattle.std.proofs.lemmas.List.{get_or-map, length-map}
use Rattle.std.proofs.lemmas.List.Folds.{Any-from_list_any}
use Rattle.bhs_net.specs.declared.links.Link.{Link}
use Rattle.bhs_net.specs.Links.{near_end, far_end, link_at, Joins, AreJoined, SharesEnd}
use Rattle.bhs_net.specs.Network.{Network, nodes_of, degree_of, far_of, HasPort, IsPortLabelled, IsNetwork, Makes}
use Rattle.bhs_model.specs.Worlds.{names}
use Rattle.bhs_model.specs.Setups.{is_lesser_end, links_at, links_where}
use Rattle.bhs_model.proofs.SameDoomLemmas.{listed_in, named, is_named}
use Rattle.bhs_replay.specs.Head.{link_from, links_of}
use Rattle.bhs_replay.proofs.HeadReads.{AllOf}
use Rattle.bhs_replay.proofs.LinkLists.{every}
use Rattle.bhs_replay.proofs.ListLemmas.{all_weaker, all_kept, all_append, all_mapped, all_at, EachTwo, two_append}
use Rattle.bhs_replay.proofs.ListLemmas.{two_kept, two_at, two_mapped, two_weaker, IsFrom, range_all, range_two}

-- ---- ends in order

-- a port whose link leads to a greater node
abbrev pub IsLesser : Network → ℕ × ℕ → Type 0
IsLesser net end = (end.1 < degree_of net end.0) × (end.0 < (far_of net end.0 end.1).0)

module _ (net : Network) (test : ℕ → ℕ → Bool) where
  abbrev IsAt : ℕ → ℕ × ℕ → Type 0
  IsAt node end = (end.0 ≡ node) × (end.1 < degree_of net end.0)

  abbrev IsListedAt : ℕ → ℕ × ℕ → Type 0
  IsListedAt node end = (end.0 ≡ node) × IsLesser net end

  abbrev IsListedFrom : ℕ → ℕ × ℕ → Type 0
  IsListedFrom start end = (start ≤ end.0) × IsLesser net end

  abbrev Differ : ℕ × ℕ → ℕ × ℕ → Type 0
  Differ one other = one ≢ other

  abbrev ends_of : ℕ → List (ℕ × ℕ)
  ends_of node = map {B = ℕ × ℕ} (λ port. (node, port)) (range_with_len 0 (degree_of net node))

  at_node : (node : ℕ) → AllOf (IsListedAt node) (links_at net test node)
  at_node node =
      all_kept (IsAt node) (IsListedAt node) (is_lesser_end net test)
      (λ end is lesser. (is.0, (is.1, ltb-true _ _ (and_parts (test end.0 end.1) _ lesser).1)))
      (ends_of node)
      (all_mapped (IsAt node) (λ port. (node, port)) (range_with_len 0 (degree_of net node))
      (all_weaker (IsFrom 0 (degree_of net node)) (λ port. IsAt node (node, port)) (λ port is. (refl, is.1))
      (range_with_len 0 (degree_of net node))
      (range_all 0 (degree_of net node) (degree_of net node) (omega arith))))

  from_node : (start count : ℕ) → AllOf (IsListedFrom start) (flat_map (links_at net test) (range_with_len start count))
  from_node start zero = tt
  from_node start (suc count) =
      all_append (IsListedFrom start) (links_at net test start)
      (flat_map (links_at net test) (range_with_len (start + 1) count))
      (all_weaker (IsListedAt start) (IsListedFrom start) (λ end is. (let same = is.0 in omega arith, is.1))
      (links_at net test start) (at_node start))
      (all_weaker (IsListedFrom (start + 1)) (IsListedFrom start) (λ end is. (let above = is.0 in omega arith, is.1))
      (flat_map (links_at net test) (range_with_len (start + 1) count)) (from_node (start + 1) count))

  two_at_node : (node : ℕ) → EachTwo Differ (links_at net test node)
  two_at_node node =
      two_kept Differ (is_lesser_end net test) (ends_of node)
      (two_mapped Differ (λ port. (node, port)) (range_with_len 0 (degree_of net node))
      (two_weaker (IsFrom 0 (degree_of net node)) (λ i j. i < j) (λ i j. Differ (node, i) (node, j))
      (λ i j is other less same. let ports : i ≡ j = ap (λ (e : ℕ × ℕ). e.1) same in omega arith)
      (range_with_len 0 (degree_of net node)) (range_all 0 (degree_of net node) (degree_of net node) (omega arith))
      (range_two 0 (degree_of net node))))

  two_from_node : (start count : ℕ) → EachTwo Differ (flat_map (links_at net test) (range_with_len start count))
  two_from_node start zero = tt
  two_from_node start (suc count) =
      let others = flat_map (links_at net test) (range_with_len (start + 1) count) in
      two_append Differ (links_at net test start) others (two_at_node start) (two_from_node (start + 1) count)
      (all_weaker (IsListedAt start) (λ end. AllOf (Differ end) others)
      (λ end is. all_weaker (IsListedFrom (start + 1)) (Differ end)
      (λ other above same. let here = is.0 in let there = above.0 in
      let nodes : end.0 ≡ other.0 = ap (λ (e : ℕ × ℕ). e.0) same in omega arith) others
      (from_node (start + 1) count))
      (links_at net test start) (at_node start))

  pub all_lesser : AllOf (IsLesser net) (links_where net test)
  all_lesser = all_weaker (IsListedFrom 0) (IsLesser net) (λ end is. is.1) (links_where net test)
      (from_node 0 (nodes_of net))

-- ---- the links at these ends have no end in common

abbrev pub AreApart : Network → ℕ × ℕ → ℕ × ℕ → Type 0
AreApart net one other = ¬ SharesEnd (link_from net one) (link_from net other)

module _ (net : Network) (labelled : IsPortLabelled net) where
  -- Far ends are symmetric: the far end of an end's far end is that end.
  far_back : (one other : ℕ × ℕ) → IsLesser net one → far_of net one.0 one.1 ≡ other → far_of net other.0 other.1 ≡ one
  far_back one other is same = ap (λ (e : ℕ × ℕ). far_of net e.0 e.1) (sym same) ∙ labelled.back one.0 one.1 is.0

  no_far : (one other : ℕ × ℕ) → IsLesser net one → IsLesser net other → far_of net one.0 one.1 ≢ other
  no_far one other is others same =
      let back = far_back one other is same in
      let up : one.0 < other.0 = subst (λ (e : ℕ × ℕ). one.0 < e.0) same is.1 in
      let down : other.0 < one.0 = subst (λ (e : ℕ × ℕ). other.0 < e.0) back others.1 in
      omega arith

  apart : (one other : ℕ × ℕ) → IsLesser net one → IsLesser net other → one ≢ other → AreApart net one other
  apart one other is others differ shares = elim shares [
    | inl (inl same) ↦ differ same
    | inl (inr same) ↦ no_far one other is others same
    | inr (inl same) ↦ no_far other one others is (sym same)
    | inr (inr same) ↦ differ (sym (far_back one _ is refl) ∙ ap (λ (e : ℕ × ℕ). far_of net e.0 e.1) same
        ∙ far_back other _ others refl)
  ]

  pub all_apart : (test : ℕ → ℕ → Bool) → EachTwo (AreApart net) (links_where net test)
  all_apart test = two_weaker (IsLesser net) (λ one other. one ≢ other) (AreApart net) apart (links_where net test)
      (all_lesser net test) (two_from_node net test 0 (nodes_of net))

-- ---- so they make the network

module _ (net : Network) (network : IsNetwork net) where
  -- what a listed link says
  abbrev IsLinkOf : Link → Type 0
  IsLinkOf link = (HasPort net (near_end link) × (far_of net link.v link.p ≡ far_end link))
      × (HasPort net (far_end link) × (far_of net link.w link.q ≡ near_end link))

  is_link : (end : ℕ × ℕ) → IsLesser net end → IsLinkOf (link_from net end)
  is_link end is = ((is.0, refl), (network.labelled.within end.0 end.1 is.0, network.labelled.back end.0 end.1 is.0))

  all_links : AllOf IsLinkOf (links_of net)
  all_links = all_mapped IsLinkOf (link_from net) (links_where net every)
      (all_weaker (IsLesser net) (λ end. IsLinkOf (link_from net end)) is_link (links_where net every)
      (all_lesser net every))

  two_links : EachTwo (λ one other. ¬ SharesEnd one other) (links_of net)
  two_links = two_mapped (λ one other. ¬ SharesEnd one other) (link_from net) (links_where net every)
      (all_apart net network.labelled every)

  -- a listed end is that of a link at some place
  place_of : (node port : ℕ) → port < degree_of net node → node < (far_of net node port).0
      → (place : ℕ) × (place < length (links_of net)) × (link_at (links_of net) place ≡ link_from net (node, port))
  place_of node port has lesser =
      let found = Any-from_list_any (names node port) (links_where net every)
      (listed_in net every (names node port) node port has (and_from _ _ refl (lt-ltb _ _ lesser))
      (named node port)) in (
        found.0,
        subst (λ n. found.0 < n) (sym (length-map (links_where net every) (link_from net))) found.2,
        get_or-map (link_from net) (links_where net every) found.0 found.1 _ found.2
            ∙ ap (link_from net) (found.3 ∙ is_named node port found.1 found.4),
      )

  apart_by : (a b : ℕ) → a ≢ b → (a < b) ⊎ (b < a)
  apart_by a b differ = grind arith

  joined : (node port : ℕ) → port < degree_of net node → AreJoined (links_of net) (node, port) (far_of net node port)
  joined node port has =
      let far = far_of net node port in
      let back = network.labelled.back node port has in
      elim (apart_by node far.0 (λ same. network.labelled.no_loop node port has (sym same))) [
        | inl lesser ↦ let found = place_of node port has lesser in
            (found.0, found.1, subst (λ link. Joins link (node, port) far) (sym found.2) (inl (refl, refl)))
        | inr greater ↦
            let found = place_of far.0 far.1 (network.labelled.within node port has)
            (subst (λ (e : ℕ × ℕ). far.0 < e.0) (sym back) greater) in
            (found.0, found.1, subst (λ link. Joins link (node, port) far) (sym found.2) (inr (back, refl)))
      ]

  pub links_make : Makes (nodes_of net) (links_of net) net
  links_make = record {
    size = refl;
    network = network;
    made_of = record {
      near = λ place within. (all_at IsLinkOf (links_of net) place _ within all_links).0;
      far = λ place within. (all_at IsLinkOf (links_of net) place _ within all_links).1;
      all = joined;
      once = λ early late less within. two_at (λ one other. ¬ SharesEnd one other) (links_of net) early late _ less
          within two_links;
    };
  }
