use Rattle.std.proofs.Common.{◌≡◌, ℕ, ◌+◌, ◌<◌, ◌≤◌, ⊎_elim, eqb, true, false, sym, ap, ◌∙◌, subst, arith, List, length}
use Rattle.std.proofs.Common.{map, get_or, take, [], ◌∷◌, ◌++◌, Vec, Global, vec_len}
use Rattle.std.specs.List.{list_any, IsDistinct}
use Rattle.std.proofs.lemmas.List.{get_or-map, get_or_default, length-map, take_more}
use Rattle.std.proofs.lemmas.List.Folds.{Any-from_list_any}
use Rattle.std.proofs.lemmas.Map.Keys.{IsDistinct-from_apart}
use Rattle.std.proofs.lemmas.Map.Steps.{length-le_from_distinct_below}
use Rattle.std.proofs.lemmas.Bool.Decides.{eqb_tells}
use Rattle.bhs_net.specs.Links.{End}
use Rattle.bhs_net.specs.Network.{Network, network_of, nodes_of, row_of, degree_of, far_of, IsPortLabelled}
use Rattle.bhs_net.proofs.Listed.{HasPort-node}

-- the nodes that a row leads to
abbrev heads : List End → List ℕ
heads row = map (λ end. end.0) row

head_at : (net : Network) (node port d : ℕ) → port < degree_of net node
    → get_or (heads (row_of net node)) port d ≡ (far_of net node port).0
head_at net node port d h = get_or-map (λ (end : End). end.0) (row_of net node) port (0, 0) d h

-- no node has more ports than there are nodes
pub degree_of-le : (net : Network) (node : ℕ) → IsPortLabelled net → degree_of net node ≤ nodes_of net
degree_of-le net node labelled =
    let row = row_of net node in
    let apart : IsDistinct eqb (heads row) = IsDistinct-from_apart eqb (heads row) (λ i j d lt at.
    let at_j : j < degree_of net node = let len = length-map row (λ (end : End). end.0) in omega arith in
    let at_i : i < degree_of net node = omega arith in
    ⊎_elim
    (λ same. absurd (let e : i ≡ j = labelled.simple node i j at_i at_j
    (sym (head_at net node i d at_i) ∙ (same.1 ∙ head_at net node j d at_j)) in omega arith))
    (λ differ. differ.0)
    (eqb_tells (get_or (heads row) i d) (get_or (heads row) j d))) in
    let below : (q : ℕ) → list_any (eqb q) (heads row) ≡ true → q < nodes_of net = λ q there.
    let found = Any-from_list_any (eqb q) (heads row) there in
    let at : found.0 < degree_of net node = let lt : found.0 < length (heads row) = found.2 in
    let len = length-map row (λ (end : End). end.0) in omega arith in
    let is : (far_of net node found.0).0 ≡ found.1 = sym (head_at net node found.0 found.1 at) ∙ found.3 in
    let q_is : q ≡ found.1 = ⊎_elim (λ same. same.1)
    (λ differ. absurd (let no : true ≡ false = sym found.4 ∙ differ.0 in cc)) (eqb_tells q found.1) in
    let node_of : (far_of net node found.0).0 < nodes_of net = HasPort-node net _ _ (labelled.within node found.0 at) in
    omega arith in
    let most = length-le_from_distinct_below (heads row) (nodes_of net) apart below in
    let len = length-map row (λ (end : End). end.0) in
    omega arith

pub row_of-network_of : (rows : List (Vec End Global)) (node : ℕ) (row : Vec End Global) → node < length rows
    → row ≡ get_or rows node row → row_of (network_of rows) node ≡ row.items
row_of-network_of rows node row h is = get_or-map (λ (r : Vec End Global). r.items) rows node row [] h
    ∙ ap (λ (r : Vec End Global). r.items) (sym is)

-- a row that stands behind `rows` has at most 4096 ports
pub vec_len-le : (rows : List (Vec End Global)) (node : ℕ) (row : Vec End Global) → node < length rows
    → row ≡ get_or rows node row → IsPortLabelled (network_of rows) → vec_len row ≤ 4096
vec_len-le rows node row h is labelled =
    let most = degree_of-le (network_of rows) node labelled in
    let many : nodes_of (network_of rows) ≤ 4096 = labelled.many in
    let same : degree_of (network_of rows) node ≡ length row.items =
    ap (λ (r : List End). length r) (row_of-network_of rows node row h is) in
    omega (arith, row.ok.0)

pub take-network_of : (rows : List (Vec End Global)) (node : ℕ) (row : Vec End Global) → node < length rows
    → row ≡ get_or rows node row → take (node + 1) (network_of rows) ≡ take node (network_of rows) ++ row.items ∷ []
take-network_of rows node row h is =
    take_more (network_of rows) node [] (let len = length-map rows (λ (r : Vec End Global). r.items) in omega arith)
    ∙ ap (λ (r : List End). take node (network_of rows) ++ r ∷ []) (row_of-network_of rows node row h is)

-- Each entry of a row names an end at an existing node.
pub far_node : (rows : List (Vec End Global)) (node port : ℕ) (row : Vec End Global) (end : End)
    → IsPortLabelled (network_of rows) → node < length rows → row ≡ get_or rows node row → port < length row.items
    → end ≡ get_or row.items port end → end.0 < nodes_of (network_of rows)
far_node rows node port row end labelled lt is has end_is =
    let e : row_of (network_of rows) node ≡ row.items = row_of-network_of rows node row lt is in
    let port_has : port < degree_of (network_of rows) node = subst (λ (r : List End). port < length r) (sym e) has in
    let far : far_of (network_of rows) node port ≡ end = ap (λ (r : List End). get_or r port (0, 0)) e
    ∙ (get_or_default row.items port (0, 0) end has ∙ sym end_is) in
    subst (λ (q : End). q.0 < nodes_of (network_of rows)) far
    (HasPort-node (network_of rows) _ _ (labelled.within node port port_has))
