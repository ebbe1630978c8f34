use Rattle.std.proofs.Common.{◌≡◌, ◌≢◌, ℕ, ◌<◌, ◌≤◌, inl, inr, ⊎_elim, refl, sym, ap, ◌∙◌, arith, List, [], length}
use Rattle.std.proofs.Common.{subst, Some, None}
use Rattle.std.proofs.lemmas.List.{get_or_past}
use Rattle.std.specs.BTreeMap.{BTreeMap, get}
use Rattle.bhs_net.specs.declared.faults.TheConstants.{MIN_NODES, MAX_NODES}
use Rattle.bhs_net.specs.declared.links.Link.{Link}
use Rattle.bhs_net.specs.Links.{End, near_end, far_end, link_at, HasEnd, Joins, SameNodes, IsListed, AreJoined}
use Rattle.bhs_net.specs.Network.{Network, nodes_of, row_of, degree_of, far_of, HasPort, IsPortLabelled, HasLinks}
use Rattle.bhs_net.specs.Faults.{IsStray, IsLoop, IsDouble, IsPortTwice, IsGap, Lists}
use Rattle.bhs_net.specs.Listing.{end_cmp, MapsEnds, AreRowsOf, HasAllPorts, IsBeyond}
use Rattle.bhs_net.proofs.Places.{lt_or_ge, lt_eq_gt}
use Rattle.bhs_net.proofs.Order.{NoneBelow, NoneBelow-one, NoneBelow-more}

-- a node with a port is a node
pub HasPort-node : (net : Network) (node port : ℕ) → port < degree_of net node → node < nodes_of net
HasPort-node net node port h = ⊎_elim
    (λ lt. lt)
    (λ ge. absurd (let none : row_of net node ≡ [] = get_or_past net node [] ge in
    let zero : degree_of net node ≡ 0 = ap (λ (row : List End). length row) none in omega arith))
    (lt_or_ge node (nodes_of net))

Joins-back : (link : Link) (end other : End) → Joins link end other → Joins link other end
Joins-back link end other (inl j) = inr (j.1, j.0)
Joins-back link end other (inr j) = inl (j.1, j.0)

pub AreJoined-back : (links : List Link) (end other : End) → AreJoined links end other → AreJoined links other end
AreJoined-back links end other joined = (joined.0, joined.1, Joins-back (link_at links joined.0) end other joined.2)

pub IsListed-from_joined : (links : List Link) (end other : End) → AreJoined links end other → IsListed links end
IsListed-from_joined links end other joined = (joined.0, joined.1, has (link_at links joined.0) joined.2)
  where
    has : (link : Link) → Joins link end other → HasEnd link end
    has link (inl j) = inl j.0
    has link (inr j) = inr j.0

pub AreJoined-from_listed : (links : List Link) (end : End) → IsListed links end → (other : End)
    × AreJoined links end other
AreJoined-from_listed links end listed = pick listed.2
  where
    pick : HasEnd (link_at links listed.0) end → (other : End) × AreJoined links end other
    pick (inl e) = (far_end (link_at links listed.0), (listed.0, listed.1, inl (e, refl)))
    pick (inr e) = (near_end (link_at links listed.0), (listed.0, listed.1, inr (e, refl)))

-- a link that joins two ends of one node is a loop
pub Joins-loop : (link : Link) (end other : End) → Joins link end other → end.0 ≡ other.0 → link.v ≡ link.w
Joins-loop link end other (inl j) e = ap (λ (q : End). q.0) j.0 ∙ (e ∙ sym (ap (λ (q : End). q.0) j.1))
Joins-loop link end other (inr j) e = ap (λ (q : End). q.0) j.1 ∙ (sym e ∙ sym (ap (λ (q : End). q.0) j.0))

-- links that join ends of the same two nodes join the same nodes
Joins-same : (a b : Link) (end other end' other' : End) → Joins a end other → Joins b end' other' → end.0 ≡ end'.0
    → other.0 ≡ other'.0 → SameNodes a b
Joins-same a b end other end' other' (inl i) (inl j) e f =
    inl (
      ap (λ (q : End). q.0) i.0 ∙ (e ∙ sym (ap (λ (q : End). q.0) j.0)),
      ap (λ (q : End). q.0) i.1
          ∙ (f ∙ sym (ap (λ (q : End). q.0) j.1)),
    )
Joins-same a b end other end' other' (inl i) (inr j) e f =
    inr (
      ap (λ (q : End). q.0) i.0 ∙ (e ∙ sym (ap (λ (q : End). q.0) j.0)),
      ap (λ (q : End). q.0) i.1
          ∙ (f ∙ sym (ap (λ (q : End). q.0) j.1)),
    )
Joins-same a b end other end' other' (inr i) (inl j) e f =
    inr (
      ap (λ (q : End). q.0) i.1 ∙ (f ∙ sym (ap (λ (q : End). q.0) j.1)),
      ap (λ (q : End). q.0) i.0
          ∙ (e ∙ sym (ap (λ (q : End). q.0) j.0)),
    )
Joins-same a b end other end' other' (inr i) (inr j) e f =
    inl (
      ap (λ (q : End). q.0) i.1 ∙ (f ∙ sym (ap (λ (q : End). q.0) j.1)),
      ap (λ (q : End). q.0) i.0
          ∙ (e ∙ sym (ap (λ (q : End). q.0) j.0)),
    )

-- Links other than loops have exactly one port per end node.
Joins-one : (link : Link) (node port port' : ℕ) (other other' : End) → link.v ≢ link.w → Joins link (node, port) other
    → Joins link (node, port') other' → port ≡ port'
Joins-one link node port port' other other' no_loop (inl i) (inl j) = ap (λ (q : End). q.1) (sym i.0 ∙ j.0)
Joins-one link node port port' other other' no_loop (inl i) (inr j) =
    absurd (no_loop (ap (λ (q : End). q.0) i.0 ∙ sym (ap (λ (q : End). q.0) j.0)))
Joins-one link node port port' other other' no_loop (inr i) (inl j) =
    absurd (no_loop (ap (λ (q : End). q.0) j.0 ∙ sym (ap (λ (q : End). q.0) i.0)))
Joins-one link node port port' other other' no_loop (inr i) (inr j) = ap (λ (q : End). q.1) (sym i.0 ∙ j.0)

-- a right number of nodes
pub none_below_two : (nodes : ℕ) (links : List Link) → (MIN_NODES ≤ nodes) × (nodes ≤ MAX_NODES)
    → NoneBelow nodes links 2
none_below_two nodes links within = NoneBelow-more nodes links 1 (NoneBelow-one nodes links)
    (λ place h. ⊎_elim (λ low. omega arith) (λ high. omega arith) h)

-- what the passes over a list have found: no fault of the numbers 1 to 5, the map of the ends and the rows
pub record Passes (nodes : ℕ) (links : List Link) (far_ends : BTreeMap End End) (net : Network) : Type 0 where
  pub few : MIN_NODES ≤ nodes
  pub many : nodes ≤ MAX_NODES
  pub ends : (place : ℕ) → ¬ IsStray nodes links place
  pub loops : (place : ℕ) → ¬ IsLoop links place
  pub doubles : (place : ℕ) → ¬ IsDouble links place
  pub twice : (place : ℕ) → ¬ IsPortTwice links place
  pub map : MapsEnds links far_ends
  pub rows : AreRowsOf far_ends nodes net

pub passes_by : (nodes : ℕ) (links : List Link) (far_ends : BTreeMap End End) (net : Network) → (MIN_NODES ≤ nodes)
    × (nodes ≤ MAX_NODES) → ((place : ℕ) → ¬ IsStray nodes links place) → ((place : ℕ) → ¬ IsLoop links place)
    → ((place : ℕ) → ¬ IsDouble links place) → ((place : ℕ) → ¬ IsPortTwice links place) → MapsEnds links far_ends
    → AreRowsOf far_ends nodes net → Passes nodes links far_ends net
passes_by nodes links far_ends net within ends loops doubles twice map rows =
    record {
      few = within.0;
      many = within.1;
      ends = ends;
      loops = loops;
      doubles = doubles;
      twice = twice;
      map = map;
      rows = rows;
    }

module _ (nodes : ℕ) (links : List Link) (far_ends : BTreeMap End End) (net : Network)
    (passes : Passes nodes links far_ends net) where
  -- a port of a row is joined to its far end
  row_joined : (node port : ℕ) → port < degree_of net node → AreJoined links (node, port) (far_of net node port)
  row_joined node port h = passes.map.sound (node, port) (far_of net node port)
      ((passes.rows.rows node (let n = HasPort-node net node port h in let s = passes.rows.size in omega arith)).ports
      port h)

  -- Each row contains the far end of its port, as the links join them.
  row_far : (end other : End) → HasPort net end → AreJoined links end other → far_of net end.0 end.1 ≡ other
  row_far end other h joined =
      let there = (passes.rows.rows end.0 (let n = HasPort-node net end.0 end.1 h in let s = passes.rows.size in
      omega arith)).ports end.1 h in
      let known = passes.map.whole end other joined in
      let same : Some (far_of net end.0 end.1) ≡ Some other = sym there ∙ known in cc

  -- a node that is listed is a node
  listed_node : (end : End) → IsListed links end → end.0 < nodes
  listed_node end listed = pick listed.2
    where
      pick : HasEnd (link_at links listed.0) end → end.0 < nodes
      pick (inl e) = ⊎_elim
          (λ lt. let same : (link_at links listed.0).v ≡ end.0 = ap (λ (q : End). q.0) e in omega arith)
          (λ ge. absurd (passes.ends listed.0 (listed.1, inl ge)))
          (lt_or_ge (link_at links listed.0).v nodes)
      pick (inr e) = ⊎_elim
          (λ lt. let same : (link_at links listed.0).w ≡ end.0 = ap (λ (q : End). q.0) e in omega arith)
          (λ ge. absurd (passes.ends listed.0 (listed.1, inr ge)))
          (lt_or_ge (link_at links listed.0).w nodes)

  -- an end that the map lacks is not listed
  not_listed : (end : End) → get end_cmp far_ends end ≡ None → ¬ IsListed links end
  not_listed end none listed =
      let joined = AreJoined-from_listed links end listed in
      let no : None ≡ Some joined.0 = sym none ∙ passes.map.whole end joined.0 joined.1 in cc

  -- A node with a listed port beyond its row has a gap.
  pub IsGap-from_beyond : (node : ℕ) → degree_of net node < 65536 → IsBeyond links net node → IsGap links node
  IsGap-from_beyond node short beyond =
      let row = passes.rows.rows node (listed_node (node, beyond.0) beyond.1) in
      let none : get end_cmp far_ends (node, degree_of net node) ≡ None =
      ⊎_elim (λ n. n) (λ full. absurd (let f : degree_of net node ≡ 65536 = full in omega arith)) row.stops in
      let missing = not_listed (node, degree_of net node) none in
      ⊎_elim
      (λ lt. (beyond.0, degree_of net node, beyond.1, lt, missing))
      (λ ge. absurd (missing (subst (λ port. IsListed links (node, port))
      (let le : degree_of net node ≤ beyond.0 = beyond.2 in
      let e : beyond.0 ≡ degree_of net node = omega arith in e) beyond.1)))
      (lt_or_ge (degree_of net node) beyond.0)

  -- a node with a gap has a port beyond its row
  pub IsBeyond-from_gap : (node : ℕ) → IsGap links node → IsBeyond links net node
  IsBeyond-from_gap node gap = ⊎_elim
      (λ lt. absurd (gap.4 (IsListed-from_joined links _ _
      (row_joined node gap.1 (let lower : gap.1 < gap.0 = gap.3 in omega arith)))))
      (λ ge. (gap.0, gap.2, ge))
      (lt_or_ge gap.0 (degree_of net node))

  pub none_below_six : NoneBelow nodes links 6
  none_below_six =
      NoneBelow-more nodes links 5 (NoneBelow-more nodes links 4
      (NoneBelow-more nodes links 3 (NoneBelow-more nodes links 2
      (none_below_two nodes links (passes.few, passes.many)) passes.ends) passes.loops) passes.doubles) passes.twice

  module _ (all : HasAllPorts links net) where
    -- Each listed end is a port of the network.
    joined_port : (end other : End) → AreJoined links end other → HasPort net end
    joined_port end other joined = pick joined.2
      where
        pick : Joins (link_at links joined.0) end other → HasPort net end
        pick (inl j) = subst (λ (q : End). HasPort net q) j.0 (all joined.0 joined.1).0
        pick (inr j) = subst (λ (q : End). HasPort net q) j.0 (all joined.0 joined.1).1

    pub labelled : IsPortLabelled net
    labelled = record {
      few = let s = passes.rows.size in let f = passes.few in omega arith;
      many = let s = passes.rows.size in let m = passes.many in omega arith;
      within = λ node port h. joined_port (far_of net node port) (node, port)
          (AreJoined-back links _ _ (row_joined node port h));
      back = λ node port h. let joined = AreJoined-back links (node, port) (far_of net node port)
          (row_joined node port h) in row_far (far_of net node port) (node, port) (joined_port _ _ joined) joined;
      no_loop = λ node port h e. let joined = row_joined node port h in
          passes.loops joined.0 (
            joined.1,
            Joins-loop (link_at links joined.0) (node, port) (far_of net node port)
                joined.2 (sym e),
          );
      simple = λ node port other h i e. let a = row_joined node port h in let b = row_joined node other i in
          ⊎_elim
          (λ lt. absurd (passes.doubles b.0 (
            b.1,
            (a.0, lt, Joins-same (link_at links a.0) (link_at links b.0) _ _ _ _ a.2 b.2 refl e),
          )))
          (λ rest. ⊎_elim
          (λ same. Joins-one (link_at links b.0) node port other (far_of net node port) (far_of net node other)
          (λ loop. passes.loops b.0 (b.1, loop))
          (subst (λ k. Joins (link_at links k) (node, port) (far_of net node port)) same a.2) b.2)
          (λ lt. absurd (passes.doubles a.0 (
            a.1,
            (b.0, lt, Joins-same (link_at links b.0) (link_at links a.0) _ _ _ _ b.2 a.2 refl (sym e)),
          )))
          rest)
          (lt_eq_gt a.0 b.0);
    }

    pub made_of : HasLinks net links
    made_of = record {
      near = λ place lt. (
        (all place lt).0,
        row_far (near_end (link_at links place)) (far_end (link_at links place))
            (all place lt).0 (place, lt, inl (refl, refl)),
      );
      far = λ place lt. (
        (all place lt).1,
        row_far (far_end (link_at links place)) (near_end (link_at links place))
            (all place lt).1 (place, lt, inr (refl, refl)),
      );
      all = row_joined;
      once = λ early late lt at shares. passes.twice late (at, (early, lt, shares));
    }

    pub lists : Lists nodes links net
    lists = record {
      no_fault = λ fault h. NoneBelow-more nodes links 6 none_below_six
          (λ node gap. let beyond = IsBeyond-from_gap node gap in
          let joined = AreJoined-from_listed links (node, beyond.0) beyond.1 in
          let port : beyond.0 < degree_of net node = joined_port (node, beyond.0) joined.0 joined.1 in
          let le : degree_of net node ≤ beyond.0 = beyond.2 in omega arith) fault (omega arith);
      size = passes.rows.size;
      labelled = labelled;
      made_of = made_of;
    }
