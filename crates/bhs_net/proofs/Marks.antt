use Rattle.std.proofs.Common.{◌≡◌, ◌≢◌, ℕ, ◌+◌, ◌-◌, ◌<◌, ◌≤◌, ◌⊎◌, inl, inr, ⊎_elim, Bool, true, false, not, cond}
use Rattle.std.proofs.Common.{refl, sym, ap, ◌∙◌, arith, subst, List, [], ◌∷◌, ◌++◌, length, get_or, set, count_by}
use Rattle.std.proofs.Common.{length-append, replicate, Vec, Global}
use Rattle.std.proofs.Math.ListN.{get_or-append, length-set}
use Rattle.std.proofs.lemmas.List.{get_or-set_same, get_or-set_other, get_or-append_right, get_or_past, get_or_default}
use Rattle.std.proofs.lemmas.List.{length-map, get_or-replicate, length-replicate}
use Rattle.std.proofs.lemmas.List.Sums.{sum_by-set, count_by-le-length}
use Rattle.std.proofs.lemmas.Bool.Decides.{eqb_tells}
use Rattle.bhs_net.specs.Links.{End}
use Rattle.bhs_net.specs.Paths.{IsPath, Without}
use Rattle.bhs_net.specs.Network.{Network, network_of, nodes_of, row_of, degree_of, far_of, Leads, IsPortLabelled}
use Rattle.bhs_net.specs.Search.{IsMarked, MarksReached}
use Rattle.bhs_net.proofs.Places.{below_or_at, lt_or_ge}
use Rattle.bhs_net.proofs.Listed.{HasPort-node}
use Rattle.bhs_net.proofs.Degrees.{row_of-network_of}
use Rattle.bhs_net.proofs.Walks.{IsPath-none, IsPath-more, IsPath-ends}

-- The invariant of the search: the marks, and the marked nodes in the order of discovery.
pub record IsSearch (net : Network) (start removed : ℕ) (marks : List Bool) (found : List ℕ) : Type 0 where
  pub size : length marks ≡ nodes_of net
  pub from_start : IsMarked marks start
  pub sound : (node : ℕ) → IsMarked marks node → IsPath (Without removed (Leads net)) start node
  pub listed : (node : ℕ) → IsMarked marks node → (k : ℕ) × (k < length found) × (get_or found k 0 ≡ node)
  pub marked : (k : ℕ) → k < length found → IsMarked marks (get_or found k 0)
  pub kept : (k : ℕ) → k < length found → get_or found k 0 ≢ removed
  pub count : length found + count_by not marks ≤ nodes_of net

-- from the first nodes found each step leads to a mark
abbrev pub AreDone : Network → ℕ → List Bool → List ℕ → ℕ → Type 0
AreDone net removed marks found next = (k : ℕ) → k < next → (other : ℕ) → Without removed (Leads net) (get_or found k 0)
    other → IsMarked marks other

-- the first ports of the node lead to marks
abbrev pub ArePortsDone : Network → ℕ → List Bool → ℕ → ℕ → Type 0
ArePortsDone net removed marks node ports = (port : ℕ) → port < ports → (far_of net node port).0 ≢ removed
    → IsMarked marks (far_of net node port).0

eq_or_not : (a b : ℕ) → (a ≡ b) ⊎ (a ≢ b)
eq_or_not a b = ⊎_elim (λ e. inl e.1) (λ ne. inr ne.1) (eqb_tells a b)

-- a mark more
pub IsMarked-set : (marks : List Bool) (at node : ℕ) → at < length marks → IsMarked marks node
    → IsMarked (set marks at true) node
IsMarked-set marks at node lt h = ⊎_elim
    (λ e. subst (λ k. IsMarked (set marks at true) k) (sym e) (get_or-set_same marks at true false lt))
    (λ ne. get_or-set_other marks at node true false ne ∙ h)
    (eq_or_not node at)

IsMarked-cases : (marks : List Bool) (at node : ℕ) → IsMarked (set marks at true) node → (node ≡ at)
    ⊎ IsMarked marks node
IsMarked-cases marks at node h = ⊎_elim
    (λ e. inl e)
    (λ ne. inr (sym (get_or-set_other marks at node true false ne) ∙ h))
    (eq_or_not node at)

pub IsMarked-within : (marks : List Bool) (node : ℕ) → IsMarked marks node → node < length marks
IsMarked-within marks node h = ⊎_elim
    (λ lt. lt)
    (λ ge. absurd (let no : true ≡ false = sym h ∙ get_or_past marks node false ge in cc))
    (lt_or_ge node (length marks))

-- one more mark is one less to set
count-set : (marks : List Bool) (at : ℕ) → at < length marks → get_or marks at false ≡ false
    → count_by not (set marks at true) + 1 ≡ count_by not marks
count-set marks at lt h =
    let e = sum_by-set (λ (b : Bool). cond (not b) 1 0) marks at true false lt in
    let one : ◌≡◌ {A = ℕ} (cond (not (get_or marks at false)) 1 0) 1 = ap {B = ℕ} (λ (b : Bool). cond (not b) 1 0) h in
    omega (arith, e, one)

found_at : (found : List ℕ) (node : ℕ) → get_or (found ++ node ∷ []) (length found) 0 ≡ node
found_at found node = get_or-append_right found (node ∷ []) (length found) (length found) 0 refl (omega arith)
    ∙ ap (λ k. get_or (node ∷ []) k 0) (let z : length found - length found ≡ 0 = omega arith in z)

pub IsSearch-first : (net : Network) (start removed : ℕ) (marks : List Bool) → length marks ≡ nodes_of net
    → start < nodes_of net → start ≢ removed → ((node : ℕ) → get_or marks node false ≡ false)
    → IsSearch net start removed (set marks start true) (start ∷ [])
IsSearch-first net start removed marks size lt apart none =
    let at : start < length marks = omega arith in
    record {
      size = length-set marks start true ∙ size;
      from_start = get_or-set_same marks start true false at;
      sound = λ node h. ⊎_elim (λ e. subst (λ k. IsPath (Without removed (Leads net)) start k) (sym e)
          (IsPath-none _ start)) (λ old. absurd (let no : true ≡ false = sym old ∙ none node in cc))
          (IsMarked-cases marks start node h);
      listed = λ node h. ⊎_elim (λ e. (0, omega arith, sym e))
          (λ old. absurd (let no : true ≡ false = sym old ∙ none node in cc)) (IsMarked-cases marks start node h);
      marked = λ k h. let zero_is : k ≡ 0 = omega arith in
          subst (λ j. IsMarked (set marks start true) (get_or (start ∷ []) j 0)) (sym zero_is)
          (get_or-set_same marks start true false at);
      kept = λ k h. let zero_is : k ≡ 0 = omega arith in
          subst (λ j. get_or (start ∷ []) j 0 ≢ removed) (sym zero_is) apart;
      count = let c = count-set marks start at (none start) in let most = count_by-le-length not marks in omega arith;
    }

module _ (net : Network) (start removed : ℕ) (marks : List Bool) (found : List ℕ)
    (search : IsSearch net start removed marks found) where
  pub IsSearch-more : (k port other : ℕ) → k < length found → port < degree_of net (get_or found k 0)
      → (far_of net (get_or found k 0) port).0 ≡ other → other < nodes_of net → other ≢ removed
      → get_or marks other false ≡ false → IsSearch net start removed (set marks other true) (found ++ other ∷ [])
  IsSearch-more k port other at has leads lt apart fresh =
      let within : other < length marks = let s = search.size in omega arith in
      let node = get_or found k 0 in
      let path : IsPath (Without removed (Leads net)) start other =
      IsPath-more _ start node other (search.sound node (search.marked k at))
      ((port, has, leads), search.kept k at, apart) in
      let longer : length (found ++ other ∷ []) ≡ length found + 1 = simp length-append refl in
      let here : get_or (found ++ other ∷ []) (length found) 0 ≡ other = found_at found other in
      record {
        size = length-set marks other true ∙ search.size;
        from_start = IsMarked-set marks other start within search.from_start;
        sound = λ node h. ⊎_elim (λ e. subst (λ d. IsPath (Without removed (Leads net)) start d) (sym e) path)
            (λ old. search.sound node old) (IsMarked-cases marks other node h);
        listed = λ node h. ⊎_elim
            (λ e. (length found, omega arith, here ∙ sym e))
            (λ old. let place = search.listed node old in (
              place.0,
              (let p : place.0 < length found = place.1 in omega arith),
              get_or-append found (other ∷ []) 0
                  place.0 place.1 ∙ place.2,
            ))
            (IsMarked-cases marks other node h);
        marked = λ j h. ⊎_elim
            (λ below. subst (λ d. IsMarked (set marks other true) d) (sym (get_or-append found (other ∷ []) 0 j below))
            (IsMarked-set marks other _ within (search.marked j below)))
            (λ e. subst (λ d. IsMarked (set marks other true) d)
            (sym (ap (λ i. get_or (found ++ other ∷ []) i 0) e ∙ here))
            (get_or-set_same marks other true false within))
            (below_or_at j (length found) (let l = longer in omega arith));
        kept = λ j h. ⊎_elim
            (λ below. subst (λ d. d ≢ removed) (sym (get_or-append found (other ∷ []) 0 j below)) (search.kept j below))
            (λ e. subst (λ d. d ≢ removed) (sym (ap (λ i. get_or (found ++ other ∷ []) i 0) e ∙ here)) apart)
            (below_or_at j (length found) (let l = longer in omega arith));
        count = let c = count-set marks other within fresh in let most = search.count in omega arith;
      }

  pub AreDone-more : (other next : ℕ) → other < nodes_of net → next ≤ length found
      → AreDone net removed marks found next → AreDone net removed (set marks other true) (found ++ other ∷ []) next
  AreDone-more other next lt within done = λ k h target step.
      IsMarked-set marks other target (let s = search.size in omega arith)
      (done k h target (subst (λ d. Without removed (Leads net) d target)
      (get_or-append found (other ∷ []) 0 k (let below : k < length found = omega arith in below)) step))

  pub ArePortsDone-more : (other node ports : ℕ) → other < nodes_of net → ArePortsDone net removed marks node ports
      → ArePortsDone net removed (set marks other true) node ports
  ArePortsDone-more other node ports lt done =
      λ port h apart. IsMarked-set marks other _ (let s = search.size in omega arith) (done port h apart)

  -- the mark that is set is a mark
  pub IsMarked-here : (other : ℕ) → other < nodes_of net → IsMarked (set marks other true) other
  IsMarked-here other lt = get_or-set_same marks other true false (let s = search.size in omega arith)

  -- all ports of the next node are done
  pub AreDone-next : (next : ℕ) → AreDone net removed marks found next
      → ArePortsDone net removed marks (get_or found next 0) (degree_of net (get_or found next 0))
      → AreDone net removed marks found (next + 1)
  AreDone-next next done ports = λ k h other step. ⊎_elim
      (λ below. done k below other step)
      (λ at. let step' = subst (λ j. Without removed (Leads net) (get_or found j 0) other) at step in
      subst (λ d. IsMarked marks d) step'.0.2 (ports step'.0.0 step'.0.1 (λ e. step'.2 (sym step'.0.2 ∙ e))))
      (below_or_at k next h)

  -- the search is over once all nodes found are done
  pub MarksReached-from_done : AreDone net removed marks found (length found) → MarksReached net start removed marks
  MarksReached-from_done done = record {
    size = search.size;
    sound = search.sound;
    whole = λ node path. IsPath-ends (Without removed (Leads net)) (λ d. IsMarked marks d)
        (λ a b marked step. let place = search.listed a marked in
        done place.0 place.1 b (subst (λ d. Without removed (Leads net) d b) (sym place.2) step))
        start node search.from_start path;
  }

-- the search, at some ports of the next node
pub record IsStep (net : Network) (start removed next node ports : ℕ) (marks : List Bool)
    (found : List ℕ) : Type 0 where
  pub search : IsSearch net start removed marks found
  pub done : AreDone net removed marks found next
  pub within : next < length found
  pub is_next : get_or found next 0 ≡ node
  pub ports_done : ArePortsDone net removed marks node ports

module _ (net : Network) (labelled : IsPortLabelled net) (start removed next node port : ℕ) (marks : List Bool)
    (found : List ℕ) (step : IsStep net start removed next node port marks found)
    (has : port < degree_of net node) where
  far_within : (far_of net node port).0 < nodes_of net
  far_within = HasPort-node net _ _ (labelled.within node port has)

  -- a port that leads to the removed node, or to a node with a mark
  pub IsStep-past : ((far_of net node port).0 ≢ removed → IsMarked marks (far_of net node port).0)
      → IsStep net start removed next node (port + 1) marks found
  IsStep-past past = record {
    search = step.search;
    done = step.done;
    within = step.within;
    is_next = step.is_next;
    ports_done = λ q h apart. ⊎_elim
        (λ below. step.ports_done q below apart)
        (λ at. subst (λ k. IsMarked marks (far_of net node k).0) (sym at)
        (past (subst (λ k. (far_of net node k).0 ≢ removed) at apart)))
        (below_or_at q port h);
  }

  -- a port that leads to a node without a mark, which is set
  pub IsStep-set : (other : ℕ) → (far_of net node port).0 ≡ other → other ≢ removed → get_or marks other false ≡ false
      → IsStep net start removed next node (port + 1) (set marks other true) (found ++ other ∷ [])
  IsStep-set other leads apart fresh =
      let lt : other < nodes_of net = let w = far_within in omega arith in
      let longer : length (found ++ other ∷ []) ≡ length found + 1 = simp length-append refl in
      record {
        search = IsSearch-more net start removed marks found step.search next port other step.within
            (subst (λ d. port < degree_of net d) (sym step.is_next) has)
            (ap (λ d. (far_of net d port).0) step.is_next ∙ leads) lt apart fresh;
        done = AreDone-more net start removed marks found step.search other next lt
            (let w = step.within in omega arith) step.done;
        within = let w = step.within in omega arith;
        is_next = get_or-append found (other ∷ []) 0 next step.within ∙ step.is_next;
        ports_done = λ q h away. ⊎_elim
            (λ below. ArePortsDone-more net start removed marks found step.search other node port lt
            step.ports_done q below away)
            (λ at. subst (λ k. IsMarked (set marks other true) (far_of net node k).0) (sym at)
            (subst (λ d. IsMarked (set marks other true) d) (sym leads)
            (IsMarked-here net start removed marks found step.search other lt)))
            (below_or_at q port h);
      }

-- the node that stands next among those found
pub next_node : (rows : List (Vec End Global)) (start removed : ℕ) (marks : List Bool) (found : List ℕ) (next node : ℕ)
    → IsSearch (network_of rows) start removed marks found → next < length found → node ≡ get_or found next node
    → (node < length rows) × (get_or found next 0 ≡ node)
next_node rows start removed marks found next node search within is =
    let same : get_or found next 0 ≡ node = get_or_default found next 0 node within ∙ sym is in
    let marked : IsMarked marks node = subst (λ d. IsMarked marks d) same (search.marked next within) in
    let lt = IsMarked-within marks node marked in
    let size = search.size in
    let all = length-map rows (λ (r : Vec End Global). r.items) in
    (omega arith, same)

-- what a loop over the node's row reads: a port of the node, and a place among the marks
pub port_read : (rows : List (Vec End Global)) → IsPortLabelled (network_of rows)
    → (start removed next node port : ℕ) (marks : List Bool) (found : List ℕ) (row : Vec End Global) (items : List End)
    (other : ℕ) → IsStep (network_of rows) start removed next node port marks found → row ≡ get_or rows node row
    → items ≡ row.items → port < length items → other ≡ (get_or items port (0, 0)).0 → (other < length marks)
    × (port < degree_of (network_of rows) node) × ((far_of (network_of rows) node port).0 ≡ other)
port_read rows labelled start removed next node port marks found row items other step is items_is has other_is =
    let lt : node < length rows =
    (let at = IsMarked-within marks node (subst (λ d. IsMarked marks d) step.is_next
    (step.search.marked next step.within)) in
    let size = step.search.size in
    let all = length-map rows (λ (r : Vec End Global). r.items) in
    omega arith) in
    let e : items ≡ row_of (network_of rows) node = items_is ∙ sym (row_of-network_of rows node row lt is) in
    let port_has : port < degree_of (network_of rows) node = subst (λ (r : List End). port < length r) e has in
    let leads : (far_of (network_of rows) node port).0 ≡ other =
    sym (other_is ∙ ap (λ (r : List End). (get_or r port (0, 0)).0) e) in
    let other_in : (far_of (network_of rows) node port).0 < nodes_of (network_of rows) =
    HasPort-node (network_of rows) _ _ (labelled.within node port port_has) in
    let size = step.search.size in
    (omega arith, port_has, leads)

-- a mark, read at any default
pub mark_read : (marks : List Bool) (node : ℕ) (mark value : Bool) → node < length marks → mark ≡ get_or marks node mark
    → mark ≡ value → get_or marks node false ≡ value
mark_read marks node mark value lt is e = get_or_default marks node false mark lt ∙ (sym is ∙ e)

-- the loop over the node's row is over
pub row_done : (rows : List (Vec End Global)) (start removed next node ports : ℕ) (marks : List Bool) (found : List ℕ)
    (row : Vec End Global) (items : List End) → IsStep (network_of rows) start removed next node ports marks found
    → row ≡ get_or rows node row → items ≡ row.items → length items ≤ ports → AreDone (network_of rows) removed marks
    found (next + 1)
row_done rows start removed next node ports marks found row items step is items_is over =
    let lt : node < length rows =
    (let at = IsMarked-within marks node (subst (λ d. IsMarked marks d) step.is_next
    (step.search.marked next step.within)) in
    let size = step.search.size in
    let all = length-map rows (λ (r : Vec End Global). r.items) in
    omega arith) in
    let e : row_of (network_of rows) node ≡ items = row_of-network_of rows node row lt is ∙ sym items_is in
    let degree : degree_of (network_of rows) node ≡ length items = ap (λ (r : List End). length r) e in
    AreDone-next (network_of rows) start removed marks found step.search next step.done
    (subst (λ d. ArePortsDone (network_of rows) removed marks d (degree_of (network_of rows) d)) (sym step.is_next)
    (λ port h apart. step.ports_done port (omega arith) apart))

-- the search is over
pub search_over : (net : Network) (start removed : ℕ) (marks : List Bool) (found : List ℕ) (next : ℕ)
    → IsSearch net start removed marks found → AreDone net removed marks found next → length found ≤ next
    → MarksReached net start removed marks
search_over net start removed marks found next search done over =
    MarksReached-from_done net start removed marks found search (λ k h. done k (omega arith))

-- the marks before a search
pub no_mark : (n : ℕ) (marks : List Bool) → marks ≡ replicate n false → (node : ℕ) → get_or marks node false ≡ false
no_mark n marks is node = ⊎_elim
    (λ lt. ap (λ (m : List Bool). get_or m node false) is ∙ get_or-replicate n node false false lt)
    (λ ge. get_or_past marks node false (let len : length marks ≡ n = ap (λ (m : List Bool). length m) is
    ∙ length-replicate n false in omega arith))
    (lt_or_ge node n)
