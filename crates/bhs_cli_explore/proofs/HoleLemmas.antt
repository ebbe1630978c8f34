-- Matches with one node as the only black hole, and the reports of several such matches.
use Rattle.std.proofs.Common.{◌≡◌, ◌∙◌, refl, sym, ap, ap₂, subst, true≢false, ℕ, zero, suc, ◌+◌, ◌<◌, ◌≤◌, arith}
use Rattle.std.proofs.Common.{◌==◌, Bool, true, false, ◌||◌, List, [], ◌∷◌, ◌++◌, length, map, get_or}
use Rattle.std.proofs.Common.{Option, Some, None, if◌then◌else◌, inl, inr}
use Rattle.std.specs.Prelude.{IfOk, IfSome, Result, Ok, Err, filter}
use Rattle.std.specs.List.{AllByRecursion, flat_map, range_with_len}
use Rattle.std.proofs.lemmas.Bool.{cond-true, cond-false, cases_order, eq-eqb, eqb-true, ne_eqb}
use Rattle.bhs_net.specs.Network.{Network, degree_of, far_of, nodes_of}
use Rattle.bhs_model.specs.declared.setups.Setup.{Setup}
use Rattle.bhs_model.specs.Setups.{is_lesser_end, links_at, nodes_where, normal, IsNormal}
use Rattle.bhs_model.specs.Worlds.{is_dark, is_hole}
use Rattle.bhs_model.proofs.StepLemmas.{by_cases}
use Rattle.bhs_cli_explore.specs.Holes.{setup_with}

-- ---- setups

-- whether a node is the only black hole
only_hole : (hole node : ℕ) → (b : Bool) → (hole == node) ≡ b → is_hole (hole ∷ []) node ≡ b
only_hole hole node true is = ap (λ (it : Bool). it || false) is
only_hole hole node false is = ap (λ (it : Bool). it || false) is

-- no later node is the black hole
none_later : (hole start count : ℕ) → hole < start → filter (is_hole (hole ∷ [])) (range_with_len start count) ≡ []
none_later hole start zero later = refl
none_later hole start (suc count) later =
    cond-false (is_hole (hole ∷ []) start) _ _ (only_hole hole start false (ne_eqb hole start (λ same. omega arith)))
    ∙ none_later hole (start + 1) count (omega arith)

-- Every node except the first belongs to the rest of the list.
apart : (hole start : ℕ) → start ≤ hole → (hole == start) ≡ false → start + 1 ≤ hole
apart hole start from is = elim (cases_order hole start) [
  | inl same ↦ absurd (true≢false (sym (eq-eqb hole start same) ∙ is))
  | inr (inl less) ↦ absurd (omega arith)
  | inr (inr more) ↦ omega arith
]

-- of the nodes in order the black hole is one
one_found : (hole start count : ℕ) → start ≤ hole → hole < start + count
    → filter (is_hole (hole ∷ [])) (range_with_len start count) ≡ hole ∷ []
one_found hole start zero from below = absurd (omega arith)
one_found hole start (suc count) from below =
    let rest = filter (is_hole (hole ∷ [])) (range_with_len (start + 1) count) in
    by_cases (hole == start) _
    (λ is.
    let same : hole ≡ start = eqb-true hole start is in
    cond-true (is_hole (hole ∷ []) start) (start ∷ rest) rest (only_hole hole start true is)
    ∙ ap₂ (λ (node : ℕ) (nodes : List ℕ). node ∷ nodes) (sym same) (none_later hole (start + 1) count (omega arith)))
    (λ is.
    cond-false (is_hole (hole ∷ []) start) (start ∷ rest) rest (only_hole hole start false is)
    ∙ one_found hole (start + 1) count (apart hole start from is) (omega arith))

-- no link is dark
none_dark : (net : Network) (ends : List (ℕ × ℕ)) → filter (is_lesser_end net (is_dark (far_of net) [])) ends ≡ []
none_dark net [] = refl
none_dark net (end ∷ ends) = none_dark net ends

no_links : (net : Network) (nodes : List ℕ) → flat_map (links_at net (is_dark (far_of net) [])) nodes ≡ []
no_links net [] = refl
no_links net (node ∷ nodes) =
    ap₂ (λ (front rest : List (ℕ × ℕ)). front ++ rest)
    (none_dark net (map (λ port. (node, port)) (range_with_len 0 (degree_of net node)))) (no_links net nodes)

-- a setup with one black hole is its normal form
pub normal_with : (net : Network) (setup : Setup) (hole : Option ℕ) → IsNormal net setup
    → IfSome hole (λ hole. hole < nodes_of net) → normal net (setup_with setup hole) ≡ setup_with setup hole
normal_with net setup None is within = is.same
normal_with net setup (Some hole) is within =
    ap₂ (λ (holes : List ℕ) (dark : List (ℕ × ℕ)). record setup { holes = holes; dark = dark })
    (one_found hole 0 (nodes_of net) (omega arith) (omega arith)) (no_links net (range_with_len 0 (nodes_of net)))

-- ---- the nodes that are tried

-- a property of the elements that pass a test, by induction on the list
module _ (P : ℕ → Type 0) (test : ℕ → Bool) (first : ℕ) (rest : List ℕ) where
  first_kept : AllByRecursion P (if test first then first ∷ rest else rest) → test first ≡ true
      → P first × AllByRecursion P rest
  first_kept all is = subst (AllByRecursion P) (cond-true (test first) (first ∷ rest) rest is) all

  others_kept : AllByRecursion P (if test first then first ∷ rest else rest) → AllByRecursion P rest
  others_kept all = by_cases (test first) (AllByRecursion P rest) (λ is. (first_kept all is).1)
      (λ is. subst (AllByRecursion P) (cond-false (test first) (first ∷ rest) rest is) all)

  keeps_both : P first → AllByRecursion P rest → AllByRecursion P (if test first then first ∷ rest else rest)
  keeps_both one others = by_cases (test first) (AllByRecursion P (if test first then first ∷ rest else rest))
      (λ is. subst (AllByRecursion P) (sym (cond-true (test first) (first ∷ rest) rest is)) (one, others))
      (λ is. subst (AllByRecursion P) (sym (cond-false (test first) (first ∷ rest) rest is)) others)

-- a property of all elements that pass a test holds of an element that passes it
pub holds_of : (P : ℕ → Type 0) (test : ℕ → Bool) (start count node : ℕ)
    → AllByRecursion P (filter test (range_with_len start count)) → start ≤ node → node < start + count
    → test node ≡ true → P node
holds_of P test start zero node all from below is = absurd (omega arith)
holds_of P test start (suc count) node all from below is =
    let rest = filter test (range_with_len (start + 1) count) in
    elim (cases_order node start) [
      | inl same ↦ subst P (sym same)
          (first_kept P test start rest all (subst (λ (it : ℕ). test it ≡ true) same is)).0
      | inr (inl less) ↦ absurd (omega arith)
      | inr (inr more) ↦ holds_of P test (start + 1) count node (others_kept P test start rest all) (omega arith)
          (omega arith) is
    ]

-- the nodes that pass a test are nodes
all_below : (test : ℕ → Bool) (start count most : ℕ) → start + count ≡ most
    → AllByRecursion (λ node. node < most) (filter test (range_with_len start count))
all_below test start zero most is = tt
all_below test start (suc count) most is =
    keeps_both (λ node. node < most) test start (filter test (range_with_len (start + 1) count)) (omega arith)
    (all_below test (start + 1) count most (omega arith))

pub all_nodes : (net : Network) (test : ℕ → Bool) → AllByRecursion (λ node. node < nodes_of net) (nodes_where net test)
all_nodes net test = all_below test 0 (nodes_of net) (nodes_of net) (omega arith)

-- ---- results

-- the result at each index
by_place : {R : Type 0} (P : R → Type 0) (place_of : R → ℕ) (places : List ℕ) (results : List R)
    → length results ≡ length places
    → ((i : ℕ) (d : R) → i < length places → (place_of (get_or results i d) ≡ get_or places i 0)
    × P (get_or results i d)) → (map place_of results ≡ places) × AllByRecursion P results
by_place P place_of [] [] many each = (refl, tt)
by_place P place_of [] (result ∷ results) many each = absurd (omega (arith, many))
by_place P place_of (place ∷ places) [] many each = absurd (omega (arith, many))
by_place P place_of (place ∷ places) (result ∷ results) many each =
    let first = each 0 result (omega arith) in
    let rest = by_place P place_of places results (omega (arith, many))
    (λ i d less. each (suc i) d (omega arith)) in (
      ap₂ (λ (node : ℕ) (nodes : List ℕ). node ∷ nodes) first.0 rest.0,
      (first.1, rest.1),
    )

-- the same for optional results
pub results_by_place : {V E R : Type 0} (P : R → Type 0) (place_of : R → ℕ) (places : List ℕ) (items : V → List R)
    (outcome : Result V E) (Many Each : V → Type 0) → IfOk outcome Many → IfOk outcome Each
    → ((it : V) → Many it → length (items it) ≡ length places)
    → ((it : V) → Each it → (i : ℕ) (d : R) → i < length places
    → (place_of (get_or (items it) i d) ≡ get_or places i 0) × P (get_or (items it) i d))
    → IfOk outcome (λ it. (map place_of (items it) ≡ places) × AllByRecursion P (items it))
results_by_place P place_of places items (Ok it) Many Each many each lengths facts =
    by_place P place_of places (items it) (lengths it many) (facts it each)
results_by_place P place_of places items (Err fault) Many Each many each lengths facts = tt
