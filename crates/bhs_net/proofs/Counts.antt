-- A network has two ports for each of its links: its list of ports and the list of the links' ends have no end twice,
-- and each has all the ends of the other.
use Rattle.std.proofs.Common.{◌≡◌, ◌≢◌, ℕ, zero, suc, ◌+◌, ◌*◌, ◌<◌, ◌≤◌, ◌⊎◌, inl, inr, ⊎_elim, Bool, true, false}
use Rattle.std.proofs.Common.{cond, ◌||◌, refl, sym, ap, ◌∙◌, arith, subst, List, [], ◌∷◌, length, map, sum_by, Some}
use Rattle.std.proofs.Common.{IsSome}
use Rattle.std.specs.Ordering.{eq_by_cmp}
use Rattle.std.specs.Map.{lookup}
use Rattle.std.specs.List.{list_any, IsDistinct, AllByRecursion}
use Rattle.std.proofs.lemmas.List.{length-map}
use Rattle.std.proofs.lemmas.Cmp.{eq_by_cmp_equiv}
use Rattle.std.proofs.lemmas.List.Sums.{sum_by-cons}
use Rattle.std.proofs.lemmas.Map.Keys.{IsDistinct-cons}
use Rattle.std.proofs.lemmas.Map.Steps.{length-le_from_keys}
use Rattle.bhs_net.specs.declared.links.Link.{Link}
use Rattle.bhs_net.specs.Links.{End, near_end, far_end, link_at, HasEnd, SharesEnd, IsListed}
use Rattle.bhs_net.specs.Network.{Network, degree_of, ports_of, HasPort, IsPortLabelled, HasLinks}
use Rattle.bhs_net.specs.Listing.{end_cmp}
use Rattle.bhs_net.proofs.Ends.{end_cmp-cases, end_cmp-same, end_cmp_total}
use Rattle.bhs_net.proofs.Places.{below_or_at}
use Rattle.bhs_net.proofs.Listed.{IsListed-from_joined}

-- the list has the end
abbrev Has : List End → End → Type 0
Has ends end = list_any (eq_by_cmp end_cmp end) ends ≡ true

Has-first : (end : End) (ends : List End) → Has (end ∷ ends) end
Has-first end ends = ap (λ (b : Bool). b || list_any (eq_by_cmp end_cmp end) ends) (end_cmp-same end)

Has-later : (other : End) (ends : List End) (end : End) → Has ends end → Has (other ∷ ends) end
Has-later other ends end h = ⊎_elim
    (λ same. ap (λ (b : Bool). b || list_any (eq_by_cmp end_cmp end) ends) same.0)
    (λ apart. ap (λ (b : Bool). b || list_any (eq_by_cmp end_cmp end) ends) apart ∙ h)
    (end_cmp-cases end other)

Has-cases : (other : End) (ends : List End) (end : End) → Has (other ∷ ends) end → (end ≡ other) ⊎ Has ends end
Has-cases other ends end h = ⊎_elim
    (λ same. inl same.1)
    (λ apart. inr (sym (ap (λ (b : Bool). b || list_any (eq_by_cmp end_cmp end) ends) apart) ∙ h))
    (end_cmp-cases end other)

-- an end that the list lacks differs from each of it
lacks : (end : End) (ends : List End) → ¬ Has ends end
    → AllByRecursion (λ other. eq_by_cmp end_cmp end other ≡ false) ends
lacks end [] h = tt
lacks end (other ∷ ends) h = (
  ⊎_elim
      (λ same. absurd (h (subst (λ (e : End). Has (other ∷ ends) e) (sym same.1) (Has-first other ends))))
      (λ apart. apart)
      (end_cmp-cases end other),
  lacks end ends (λ has. h (Has-later other ends end has)),
)

none_distinct : IsDistinct (eq_by_cmp end_cmp) []
unfolding IsDistinct
none_distinct = tt

distinct_more : (end : End) (ends : List End) → ¬ Has ends end → IsDistinct (eq_by_cmp end_cmp) ends
    → IsDistinct (eq_by_cmp end_cmp) (end ∷ ends)
distinct_more end ends h rest = IsDistinct-cons (eq_by_cmp end_cmp) end ends (lacks end ends h) rest

found : (ends : List End) (end : End) → Has ends end
    → IsSome (lookup (eq_by_cmp end_cmp end) (map (λ (e : End). (e, e)) ends))
found [] end h = absurd (let no : false ≡ true = h in cc)
found (other ∷ ends) end h = ⊎_elim
    (λ same. subst (λ (b : Bool). IsSome (cond b (Some other)
    (lookup (eq_by_cmp end_cmp end) (map (λ (e : End). (e, e)) ends)))) (sym same.0) refl)
    (λ apart. subst (λ (b : Bool). IsSome (cond b (Some other)
    (lookup (eq_by_cmp end_cmp end) (map (λ (e : End). (e, e)) ends)))) (sym apart)
    (found ends end (sym (ap (λ (b : Bool). b || list_any (eq_by_cmp end_cmp end) ends) apart) ∙ h)))
    (end_cmp-cases end other)

-- A list of distinct ends is no longer than any list that contains all of them.
no_longer : (ends others : List End) → IsDistinct (eq_by_cmp end_cmp) ends
    → ((end : End) → Has ends end → Has others end) → length ends ≤ length others
no_longer ends others distinct all =
    let le : length ends ≤ length (map {B = End × End} (λ (e : End). (e, e)) others) =
    length-le_from_keys (eq_by_cmp_equiv end_cmp_total) ends (map (λ (e : End). (e, e)) others) distinct
    (λ end h. found others end (all end h)) in
    let len : length (map {B = End × End} (λ (e : End). (e, e)) others) ≡ length others =
    length-map others (λ (e : End). (e, e)) in
    omega (arith, le)

-- ---- the ends of the links
abbrev ends_of : List Link → List End
ends_of [] = []
ends_of (link ∷ links) = near_end link ∷ far_end link ∷ ends_of links

length-ends_of : (links : List Link) → length (ends_of links) ≡ 2 * length links
length-ends_of [] = refl
length-ends_of (link ∷ links) = omega (arith, length-ends_of links)

listed_from_has : (links : List Link) (end : End) → Has (ends_of links) end → IsListed links end
listed_from_has [] end h = absurd (let no : false ≡ true = h in cc)
listed_from_has (link ∷ links) end h = ⊎_elim
    (λ near. (0, omega arith, inl (sym near)))
    (λ rest. ⊎_elim
    (λ far. (0, omega arith, inr (sym far)))
    (λ later. let place = listed_from_has links end later in
    (suc place.0, (let lt : place.0 < length links = place.1 in omega arith), place.2))
    (Has-cases (far_end link) (ends_of links) end rest))
    (Has-cases (near_end link) (far_end link ∷ ends_of links) end h)

has_from_listed : (links : List Link) (place : ℕ) (end : End) → place < length links → HasEnd (link_at links place) end
    → Has (ends_of links) end
has_from_listed [] place end lt h = absurd (omega arith)
has_from_listed (link ∷ links) zero end lt (inl near) =
    subst (λ (e : End). Has (near_end link ∷ far_end link ∷ ends_of links) e) near
    (Has-first (near_end link) (far_end link ∷ ends_of links))
has_from_listed (link ∷ links) zero end lt (inr far) = Has-later (near_end link) (far_end link ∷ ends_of links) end
    (subst (λ (e : End). Has (far_end link ∷ ends_of links) e) far (Has-first (far_end link) (ends_of links)))
has_from_listed (link ∷ links) (suc place) end lt h = Has-later (near_end link) (far_end link ∷ ends_of links) end
    (Has-later (far_end link) (ends_of links) end (has_from_listed links place end (omega arith) h))

shares : (a b : Link) (end : End) → HasEnd a end → HasEnd b end → SharesEnd a b
shares a b end has (inl near) = inl (subst (λ (e : End). HasEnd a e) (sym near) has)
shares a b end has (inr far) = inr (subst (λ (e : End). HasEnd a e) (sym far) has)

distinct-ends_of : (links : List Link) → ((place : ℕ) → place < length links → near_end (link_at links place) ≢ far_end
    (link_at links place)) → ((early late : ℕ) → early < late → late < length links
    → ¬ SharesEnd (link_at links early) (link_at links late)) → IsDistinct (eq_by_cmp end_cmp) (ends_of links)
distinct-ends_of [] apart once = none_distinct
distinct-ends_of (link ∷ links) apart once =
    let later : (end : End) → HasEnd link end → ¬ Has (ends_of links) end = λ end has h.
    (let place = listed_from_has links end h in
    once 0 (suc place.0) (omega arith) (let lt : place.0 < length links = place.1 in omega arith)
    (shares link (link_at links place.0) end has place.2)) in
    distinct_more (near_end link) (far_end link ∷ ends_of links)
    (λ h. ⊎_elim (λ same. apart 0 (omega arith) same) (λ rest. later (near_end link) (inl refl) rest)
    (Has-cases (far_end link) (ends_of links) (near_end link) h))
    (distinct_more (far_end link) (ends_of links) (later (far_end link) (inr refl))
    (distinct-ends_of links (λ place lt. apart (suc place) (omega arith))
    (λ early late lt at. once (suc early) (suc late) (omega arith) (omega arith))))

-- ---- the ports of the network
-- the first ports of a node, and then other ends
abbrev labels : ℕ → ℕ → List End → List End
labels node zero rest = rest
labels node (suc port) rest = (node, port) ∷ labels node port rest

-- The ports of these rows; the first row belongs to this node.
abbrev ports_from : ℕ → Network → List End
ports_from node [] = []
ports_from node (row ∷ rows) = labels node (length row) (ports_from (suc node) rows)

length-labels : (node ports : ℕ) (rest : List End) → length (labels node ports rest) ≡ ports + length rest
length-labels node zero rest = omega arith
length-labels node (suc ports) rest = omega (arith, length-labels node ports rest)

length-ports_from : (node : ℕ) (net : Network) → length (ports_from node net) ≡ sum_by length net
length-ports_from node [] = refl
length-ports_from node (row ∷ rows) =
    length-labels node (length row) (ports_from (suc node) rows)
    ∙ (ap (λ n. length row + n) (length-ports_from (suc node) rows) ∙ sym (sum_by-cons length row rows))

labels_cases : (node ports : ℕ) (rest : List End) (end : End) → Has (labels node ports rest) end
    → ((end.0 ≡ node) × (end.1 < ports)) ⊎ Has rest end
labels_cases node zero rest end h = inr h
labels_cases node (suc port) rest end h = ⊎_elim
    (λ same. inl (ap (λ (e : End). e.0) same, let p : end.1 ≡ port = ap (λ (e : End). e.1) same in omega arith))
    (λ later. ⊎_elim
    (λ low. inl (low.0, let lt : end.1 < port = low.1 in omega arith))
    (λ other. inr other)
    (labels_cases node port rest end later))
    (Has-cases (node, port) (labels node port rest) end h)

labels_rest : (node ports : ℕ) (rest : List End) (end : End) → Has rest end → Has (labels node ports rest) end
labels_rest node zero rest end h = h
labels_rest node (suc port) rest end h = Has-later (node, port) (labels node port rest) end
    (labels_rest node port rest end h)

labels_has : (node ports : ℕ) (rest : List End) (port : ℕ) → port < ports → Has (labels node ports rest) (node, port)
labels_has node zero rest port lt = absurd (omega arith)
labels_has node (suc last) rest port lt = ⊎_elim
    (λ below. Has-later (node, last) (labels node last rest) (node, port) (labels_has node last rest port below))
    (λ at. subst (λ k. Has ((node, last) ∷ labels node last rest) (node, k)) (sym at)
    (Has-first (node, last) (labels node last rest)))
    (below_or_at port last (omega arith))

ports_cases : (node : ℕ) (net : Network) (end : End) → Has (ports_from node net) end → (k : ℕ) × (end.0 ≡ node + k)
    × (end.1 < degree_of net k)
ports_cases node [] end h = absurd (let no : false ≡ true = h in cc)
ports_cases node (row ∷ rows) end h = ⊎_elim
    (λ here. (0, (let e : end.0 ≡ node = here.0 in omega arith), here.1))
    (λ later. let there = ports_cases (suc node) rows end later in
    (suc there.0, (let e : end.0 ≡ suc node + there.0 = there.1 in omega arith), there.2))
    (labels_cases node (length row) (ports_from (suc node) rows) end h)

ports_has : (node : ℕ) (net : Network) (k port : ℕ) → port < degree_of net k
    → Has (ports_from node net) (node + k, port)
ports_has node [] k port lt = absurd (no_row k port lt)
  where
    no_row : (k port : ℕ) → port < degree_of [] k → ⊥
    no_row zero port lt = omega arith
    no_row (suc k) port lt = omega arith
ports_has node (row ∷ rows) zero port lt = subst
    (λ d. Has (labels node (length row) (ports_from (suc node) rows)) (d, port))
    (let e : node ≡ node + 0 = omega arith in e) (labels_has node (length row) (ports_from (suc node) rows) port lt)
ports_has node (row ∷ rows) (suc k) port lt =
    labels_rest node (length row) (ports_from (suc node) rows) (node + suc k, port)
    (subst (λ d. Has (ports_from (suc node) rows) (d, port)) (let e : suc node + k ≡ node + suc k = omega arith in e)
    (ports_has (suc node) rows k port lt))

distinct-labels : (node ports : ℕ) (rest : List End) → ((end : End) → Has rest end → node < end.0)
    → IsDistinct (eq_by_cmp end_cmp) rest → IsDistinct (eq_by_cmp end_cmp) (labels node ports rest)
distinct-labels node zero rest above distinct = distinct
distinct-labels node (suc port) rest above distinct = distinct_more (node, port) (labels node port rest)
    (λ h. ⊎_elim (λ low. omega (arith, low.1)) (λ other. omega (arith, above (node, port) other))
    (labels_cases node port rest (node, port) h))
    (distinct-labels node port rest above distinct)

distinct-ports_from : (node : ℕ) (net : Network) → IsDistinct (eq_by_cmp end_cmp) (ports_from node net)
distinct-ports_from node [] = none_distinct
distinct-ports_from node (row ∷ rows) = distinct-labels node (length row) (ports_from (suc node) rows)
    (λ end h. let there = ports_cases (suc node) rows end h in
    let e : end.0 ≡ suc node + there.0 = there.1 in omega arith)
    (distinct-ports_from (suc node) rows)

-- ---- both
pub ports_of-links : (net : Network) (links : List Link) → IsPortLabelled net → HasLinks net links
    → ports_of net ≡ 2 * length links
ports_of-links net links labelled made_of =
    let listed_port : (end : End) → IsListed links end → HasPort net end = λ end listed. ⊎_elim
    (λ near. subst (λ (e : End). HasPort net e) near (made_of.near listed.0 listed.1).0)
    (λ far. subst (λ (e : End). HasPort net e) far (made_of.far listed.0 listed.1).0)
    listed.2 in
    let no_loop : (place : ℕ) → place < length links → near_end (link_at links place) ≢ far_end (link_at links place) =
    λ place lt same.
    let near = made_of.near place lt in
    labelled.no_loop _ _ near.0 (ap (λ (e : End). e.0) near.1 ∙ sym (ap (λ (e : End). e.0) same)) in
    let most : length (ends_of links) ≤ length (ports_from 0 net) =
    no_longer (ends_of links) (ports_from 0 net) (distinct-ends_of links no_loop made_of.once) (λ end h.
    let port : end.1 < degree_of net end.0 = listed_port end (listed_from_has links end h) in
    subst (λ d. Has (ports_from 0 net) (d, end.1)) (let e : 0 + end.0 ≡ end.0 = omega arith in e)
    (ports_has 0 net end.0 end.1 port)) in
    let least : length (ports_from 0 net) ≤ length (ends_of links) =
    no_longer (ports_from 0 net) (ends_of links) (distinct-ports_from 0 net) (λ end h.
    let there = ports_cases 0 net end h in
    let node : there.0 ≡ end.0 = (let e : end.0 ≡ 0 + there.0 = there.1 in omega arith) in
    let listed = IsListed-from_joined links _ _ (made_of.all there.0 end.1 there.2) in
    has_from_listed links listed.0 end listed.1
    (subst (λ d. HasEnd (link_at links listed.0) (d, end.1)) node listed.2)) in
    omega (arith, length-ends_of links, length-ports_from 0 net)
