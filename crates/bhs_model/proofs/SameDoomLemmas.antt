-- A setup and its normal form destroy alike.
use Rattle.std.proofs.Common.{zero, suc, ◌≡◌, ◌≢◌, ◌⊎◌, inl, inr, ℕ, ◌+◌, ◌<◌, Bool, true, false, ◌&&◌, ◌||◌, List, []}
use Rattle.std.proofs.Common.{◌∷◌, ◌++◌, ◌==◌, refl, sym, ap, ap₂, ◌∙◌, subst, arith, if◌then◌else◌}
use Rattle.std.specs.Prelude.{map, filter}
use Rattle.std.specs.List.{list_any, flat_map, range_with_len}
use Rattle.std.proofs.lemmas.Bool.{and_from, and_parts, or_left, or_right, or_cases, eqb-true, eq-eqb, lt-ltb}
use Rattle.std.proofs.lemmas.Bool.{false≢true}
use Rattle.bhs_net.specs.Network.{Network, nodes_of, degree_of, far_of, IsPortLabelled}
use Rattle.bhs_model.specs.Worlds.{is_hole, names, is_dark}
use Rattle.bhs_model.specs.Setups.{is_lesser_end, links_at, nodes_where, links_where}
use Rattle.bhs_model.proofs.PortMarkLemmas.{node_of_port}
use Rattle.bhs_model.proofs.NormalLemmas.{range_more}
use Rattle.bhs_model.proofs.DoomLemmas.{any_more}

-- two tests that hold in the same cases
pub iff_same : (a b : Bool) → (a ≡ true → b ≡ true) → (b ≡ true → a ≡ true) → a ≡ b
iff_same true b there back = sym (there refl)
iff_same false true there back = back refl
iff_same false false there back = refl

-- an item that passes: it passes, and whatever test it passes, some item passes
pub any_out : {X : Type 0} (test : X → Bool) (xs : List X) → list_any test xs ≡ true → (x : X) × (test x ≡ true)
    × ((other : X → Bool) → other x ≡ true → list_any other xs ≡ true)
any_out test [] holds = absurd (false≢true holds)
any_out test (x ∷ xs) holds = elim (or_cases (test x) (list_any test xs) holds) [
  | inl here ↦ (x, here, λ other passes. or_left (other x) _ passes)
  | inr there ↦ let rest = any_out test xs there in
      (rest.0, rest.1, λ other passes. or_right (other x) _ (rest.2 other passes))
]

-- an item of a list that was made of another
any_filter : {X : Type 0} (test p : X → Bool) (xs : List X) → list_any test (filter p xs) ≡ list_any
    (λ x. p x && test x) xs
any_filter test p [] = refl
any_filter test p (x ∷ xs) = go (p x) ∙ ap (λ rest. (p x && test x) || rest) (any_filter test p xs)
  where
    go : (b : Bool) → list_any test (if b then x ∷ filter p xs else filter p xs) ≡ ((b && test x) || list_any
        test (filter p xs))
    go true = refl
    go false = refl

any_map : {X Y : Type 0} (test : Y → Bool) (f : X → Y) (xs : List X)
    → list_any test (map f xs) ≡ list_any (λ x. test (f x)) xs
any_map test f [] = refl
any_map test f (x ∷ xs) = ap (λ rest. test (f x) || rest) (any_map test f xs)

any_append : {X : Type 0} (test : X → Bool) (xs ys : List X)
    → list_any test (xs ++ ys) ≡ (list_any test xs || list_any test ys)
any_append test [] ys = refl
any_append test (x ∷ xs) ys = ap (λ rest. test x || rest) (any_append test xs ys)
    ∙ grouped (test x) (list_any test xs) (list_any test ys)
  where
    grouped : (a b c : Bool) → (a || (b || c)) ≡ ((a || b) || c)
    grouped true b c = refl
    grouped false b c = refl

any_flat_map : {X Y : Type 0} (test : Y → Bool) (f : X → List Y) (xs : List X)
    → list_any test (flat_map f xs) ≡ list_any (λ x. list_any test (f x)) xs
any_flat_map test f [] = refl
any_flat_map test f (x ∷ xs) = any_append test (f x) (flat_map f xs) ∙ ap (λ rest. list_any test (f x) || rest)
    (any_flat_map test f xs)

-- a number of a range
any_range : (test : ℕ → Bool) (n : ℕ) → list_any test
    (range_with_len 0 (n + 1)) ≡ (list_any test (range_with_len 0 n) || test n)
any_range test n = ap (list_any test) (range_more n) ∙ any_more test (range_with_len 0 n) n

one_more : (n : ℕ) → suc n ≡ n + 1
one_more n = omega arith

last_or_before : (i n : ℕ) → i < suc n → (i ≡ n) ⊎ (i < n)
last_or_before i n lt = grind arith

pub range_in : (test : ℕ → Bool) (n i : ℕ) → i < n → test i ≡ true → list_any test (range_with_len 0 n) ≡ true
range_in test zero i lt holds = absurd (omega arith)
range_in test (suc n) i lt holds =
    ap (λ (k : ℕ). list_any test (range_with_len 0 k)) (one_more n) ∙ any_range test n
    ∙ elim (last_or_before i n lt) [
      | inl same ↦ or_right _ (test n) (subst (λ (k : ℕ). test k ≡ true) same holds)
      | inr
          before ↦ or_left _ (test n) (range_in test n i before holds)
    ]

pub range_out : (test : ℕ → Bool) (n : ℕ) → list_any test (range_with_len 0 n) ≡ true → (i : ℕ) × (i < n)
    × (test i ≡ true)
range_out test zero holds = absurd (false≢true holds)
range_out test (suc n) holds =
    elim (or_cases _ (test n) (sym (ap (λ (k : ℕ). list_any test (range_with_len 0 k)) (one_more n) ∙ any_range test n)
    ∙ holds)) [
      | inl before ↦ let found = range_out test n before in (found.0, (let lt = found.1 in omega arith), found.2)
      | inr last ↦ (n, omega arith, last)
    ]

-- black holes

pub same_holes : (net : Network) (holes : List ℕ) → ((node : ℕ) → is_hole holes node ≡ true → node < nodes_of net)
    → (node : ℕ) → is_hole (nodes_where net (is_hole holes)) node ≡ is_hole holes node
same_holes net holes within node =
    any_filter (λ (hole : ℕ). hole == node) (is_hole holes) (range_with_len 0 (nodes_of net))
    ∙ iff_same _ _
    (λ listed. let found = range_out _ (nodes_of net) listed in
    let parts = and_parts (is_hole holes found.0) _ found.2 in
    subst (λ (k : ℕ). is_hole holes k ≡ true) (eqb-true found.0 node parts.1) parts.0)
    (λ is. range_in _ (nodes_of net) node (within node is) (and_from _ _ is (eq-eqb node node refl)))

-- dark links

pub named : (node port : ℕ) → names node port (node, port) ≡ true
named node port = and_from _ _ (eq-eqb node node refl) (eq-eqb port port refl)

pub is_named : (node port : ℕ) (end : ℕ × ℕ) → names node port end ≡ true → end ≡ (node, port)
is_named node port (v, p) holds = let parts = and_parts (v == node) _ holds in
    ap₂ (λ (a b : ℕ). let pair : ℕ × ℕ = (a, b) in pair) (eqb-true v node parts.0) (eqb-true p port parts.1)

listed_at : (net : Network) (test : ℕ → ℕ → Bool) (other : ℕ × ℕ → Bool) (node : ℕ) →
    list_any other (links_at net test node) ≡ list_any
    (λ port. is_lesser_end net test (node, port) && other (node, port)) (range_with_len 0 (degree_of net node))
listed_at net test other node =
    any_filter other (is_lesser_end net test)
    (map {B = ℕ × ℕ} (λ port. (node, port)) (range_with_len 0 (degree_of net node)))
    ∙ any_map {Y = ℕ × ℕ} (λ end. is_lesser_end net test end && other end) (λ port. (node, port))
    (range_with_len 0 (degree_of net node))

-- what is listed passes the test
pub listed_out : (net : Network) (test : ℕ → ℕ → Bool) (other : ℕ × ℕ → Bool)
    → list_any other (links_where net test) ≡ true →
    (node : ℕ) × (port : ℕ) × (port < degree_of net node) × (is_lesser_end net test (node, port) ≡ true)
    × (other (node, port) ≡ true)
listed_out net test other holds =
    let at = range_out _ (nodes_of net) (sym (any_flat_map other (links_at net test) (range_with_len 0 (nodes_of net)))
    ∙ holds) in
    let by = range_out _ (degree_of net at.0) (sym (listed_at net test other at.0) ∙ at.2) in
    let parts = and_parts _ _ by.2 in
    (at.0, by.0, by.1, parts.0, parts.1)

pub listed_in : (net : Network) (test : ℕ → ℕ → Bool) (other : ℕ × ℕ → Bool) (node port : ℕ) → port < degree_of net node
    → is_lesser_end net test (node, port) ≡ true → other (node, port) ≡ true →
    list_any other (links_where net test) ≡ true
listed_in net test other node port has lesser passes =
    any_flat_map other (links_at net test) (range_with_len 0 (nodes_of net))
    ∙ range_in _ (nodes_of net) node (node_of_port net node port has)
    (listed_at net test other node ∙ range_in _ (degree_of net node) port has (and_from _ _ lesser passes))

-- a link is dark in both directions
pub dark_both : (net : Network) (dark : List (ℕ × ℕ)) (node port : ℕ) → IsPortLabelled net
    → ((k p : ℕ) → is_dark (far_of net) dark k p ≡ true → p < degree_of net k) → port < degree_of net node →
    is_dark (far_of net) dark node port ≡ true → is_dark (far_of net) dark (far_of net node port).0
    (far_of net node port).1 ≡ true
dark_both net dark node port labelled within has holds =
    let far = far_of net in
    let found = any_out _ dark holds in
    let end : ℕ × ℕ = found.0 in
    let has_end : end.1 < degree_of net end.0 = within end.0 end.1 (found.2 _ (or_left _ _ (named end.0 end.1))) in
    elim (or_cases _ _ found.1) [
      | inl near ↦ found.2 _ (or_right _ _ (subst
          (λ (e : ℕ × ℕ). names (far node port).0 (far node port).1 (far e.0 e.1) ≡ true)
          (sym (is_named node port end near)) (named (far node port).0 (far node port).1)))
      | inr there ↦ found.2 _ (or_left _ _ (subst (λ (e : ℕ × ℕ). names (far e.0 e.1).0 (far e.0 e.1).1 end ≡ true)
          (is_named node port (far end.0 end.1) there)
          (subst (λ (e : ℕ × ℕ). names e.0 e.1 end ≡ true) (sym (labelled.back end.0 end.1 has_end))
          (named end.0 end.1))))
    ]

apart_by : (a b : ℕ) → a ≢ b → (a < b) ⊎ (b < a)
apart_by a b differ = grind arith

pub same_dark : (net : Network) (dark : List (ℕ × ℕ)) → IsPortLabelled net
    → ((k p : ℕ) → is_dark (far_of net) dark k p ≡ true → p < degree_of net k) →
    (node port : ℕ) → is_dark (far_of net) (links_where net (is_dark (far_of net) dark)) node port ≡ is_dark
    (far_of net) dark node port
same_dark net dark labelled within node port = iff_same _ _ there back
  where
    far : ℕ → ℕ → ℕ × ℕ
    far = far_of net

    there : is_dark (far_of net) (links_where net (is_dark (far_of net) dark)) node port ≡ true
        → is_dark (far_of net) dark node port ≡ true
    there listed =
        let found = listed_out net (is_dark (far_of net) dark) _ listed in
        let v : ℕ = found.0 in
        let p : ℕ = found.1 in
        let is : is_dark (far_of net) dark v p ≡ true = (and_parts _ _ found.3).0 in
        elim (or_cases _ _ found.4) [
          | inl near ↦ subst (λ (e : ℕ × ℕ). is_dark (far_of net) dark e.0 e.1 ≡ true)
              (is_named node port (v, p) near) is
          | inr other ↦ subst (λ (e : ℕ × ℕ). is_dark (far_of net) dark e.0 e.1 ≡ true)
              (is_named node port (far_of net v p) other) (dark_both net dark v p labelled within found.2 is)
        ]

    back : is_dark (far_of net) dark node port ≡ true
        → is_dark (far_of net) (links_where net (is_dark (far_of net) dark)) node port ≡ true
    back is =
        let has : port < degree_of net node = within node port is in
        let end : ℕ × ℕ = far_of net node port in
        elim (apart_by node end.0 (λ same. labelled.no_loop node port has (sym same))) [
          | inl lesser ↦ listed_in net _ _ node port has (and_from _ _ is (lt-ltb _ _ lesser))
              (or_left _ _ (named node port))
          | inr greater ↦ listed_in net _ _ end.0 end.1 (labelled.within node port has)
              (and_from _ _ (dark_both net dark node port labelled within has is)
              (lt-ltb _ _ (subst (λ (e : ℕ × ℕ). end.0 < e.0) (sym (labelled.back node port has)) greater)))
              (or_right _ _ (subst (λ (e : ℕ × ℕ). names node port e ≡ true) (sym (labelled.back node port has))
              (named node port)))
        ]
