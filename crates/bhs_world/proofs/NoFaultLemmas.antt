-- A setup in normal form has no fault.
use Rattle.std.proofs.Common.{ℕ, zero, suc, ◌+◌, ◌<◌, ◌≤◌, ◌≡◌, ◌⊎◌, inl, inr, Bool, true, false, not, ◌&&◌, ◌||◌, None}
use Rattle.std.proofs.Common.{List, [], ◌∷◌, ◌++◌, ◌==◌, nat_lt, append_assoc, append-nil, refl, sym, ap, ap₂, ◌∙◌}
use Rattle.std.proofs.Common.{subst, arith}
use Rattle.std.specs.Prelude.{filter, map, nat_le}
use Rattle.std.specs.List.{range_with_len, flat_map, AllByRecursion}
use Rattle.std.proofs.lemmas.Bool.{cond-true, cond-false, and_parts, and_from, eqb-true, lt-ltb, le-leb, ltb-true}
use Rattle.std.proofs.lemmas.Bool.{true≢false}
use Rattle.std.proofs.lemmas.Bool.Decides.{eqb_tells}
use Rattle.bhs_net.specs.Network.{Network, nodes_of, degree_of, far_of, IsPortLabelled}
use Rattle.bhs_model.specs.declared.limits.TheConstants.{MAX_AGENTS, MAX_QUOTA, MAX_BOARD}
use Rattle.bhs_model.specs.declared.setups.Setup.{Setup}
use Rattle.bhs_model.specs.Worlds.{is_hole, names, is_dark}
use Rattle.bhs_model.specs.Setups.{IsNormal, nodes_where, is_lesser_end, links_at, links_where}
use Rattle.bhs_model.proofs.StepLemmas.{by_cases}
use Rattle.bhs_world.specs.Faults.{is_within, are_holes_fit, are_links_fit, first_fault, IsWithinLimits}

false_of : (b : Bool) → (b ≡ true → ⊥) → b ≡ false
false_of true never = absurd (never refl)
false_of false never = refl

or_false : (a b : Bool) → a ≡ false → b ≡ false → (a || b) ≡ false
or_false false b one two = two
or_false true b one two = absurd (true≢false one)

-- black holes in order

hole_more : (before : List ℕ) (hole node : ℕ)
    → is_hole (before ++ hole ∷ []) node ≡ (is_hole before node || (hole == node))
hole_more [] hole node = last (hole == node)
  where
    last : (b : Bool) → (b || false) ≡ b
    last true = refl
    last false = refl
hole_more (first ∷ before) hole node = ap (λ (b : Bool). (first == node) || b) (hole_more before hole node)
    ∙ sym (grouped (first == node) (is_hole before node) (hole == node))
  where
    grouped : (a b c : Bool) → ((a || b) || c) ≡ (a || (b || c))
    grouped true b c = refl
    grouped false b c = refl

unequal : (one other : ℕ) → one < other → (one == other) ≡ false
unequal one other less = elim (eqb_tells one other) [
  | inl h ↦ absurd (let same = h.1 in omega arith)
  | inr h ↦ h.0
]

not_home : (test : ℕ → Bool) (home node : ℕ) → test home ≡ false → test node ≡ true → (node == home) ≡ false
not_home test home node clear is = elim (eqb_tells node home) [
  | inl h ↦ absurd (true≢false (sym is ∙ ap test h.1 ∙ clear))
  | inr h ↦ h.0
]

holes_fit : (nodes home : ℕ) (test : ℕ → Bool) (before : List ℕ) (start count : ℕ) → test home ≡ false
    → start + count ≤ nodes → ((node : ℕ) → start ≤ node → is_hole before node ≡ false) →
    are_holes_fit nodes home before (filter test (range_with_len start count)) ≡ true
holes_fit nodes home test before start zero clear within none = refl
holes_fit nodes home test before start (suc count) clear within none =
    by_cases (test start) _
    (λ is. ap (are_holes_fit nodes home before) (cond-true (test start) _ _ is)
    ∙ and_from _ _
    (and_from _ _ (and_from _ _ (lt-ltb start nodes (omega arith)) (ap not (not_home test home start clear is)))
    (ap not (none start (omega arith))))
    (holes_fit nodes home test (before ++ start ∷ []) (start + 1) count clear (omega arith)
    (λ node above. hole_more before start node ∙ or_false _ _ (none node (omega arith))
    (unequal start node (omega arith)))))
    (λ is_not. ap (are_holes_fit nodes home before) (cond-false (test start) _ _ is_not)
    ∙ holes_fit nodes home test before (start + 1) count clear (omega arith) (λ node above. none node (omega arith)))

pub nodes_fit : (net : Network) (home : ℕ) (test : ℕ → Bool) → test home ≡ false
    → are_holes_fit (nodes_of net) home [] (nodes_where net test) ≡ true
nodes_fit net home test clear = holes_fit (nodes_of net) home test [] 0 (nodes_of net) clear (omega arith)
    (λ node above. refl)

-- dark links in order

-- an end of a link that stands before this port
record IsBefore (net : Network) (node port : ℕ) (end : ℕ × ℕ) : Type 0 where
  pub is_port : end.1 < degree_of net end.0
  pub order : (end.0 < node) ⊎ ((end.0 ≡ node) × (end.1 < port))

names_means : (node port : ℕ) (end : ℕ × ℕ) → names node port end ≡ true → (end.0 ≡ node) × (end.1 ≡ port)
names_means node port end is =
    let parts = and_parts (end.0 == node) (end.1 == port) is in
    (eqb-true end.0 node parts.0, eqb-true end.1 port parts.1)

other_end : (net : Network) (node port : ℕ) (end : ℕ × ℕ) → IsBefore net node port end → names node port end ≡ true → ⊥
other_end net node port end before is =
    let same = names_means node port end is in
    elim before.order [
      | inl less ↦ let one = same.0 in omega arith
      | inr less ↦ let one = same.1 in let two = less.1 in omega arith
    ]

other_far : (net : Network) (node port : ℕ) (end : ℕ × ℕ) → IsPortLabelled net → IsBefore net node port end
    → node < (far_of net node port).0 → names node port (far_of net end.0 end.1) ≡ true → ⊥
other_far net node port end labelled before lesser is =
    let same = names_means node port (far_of net end.0 end.1) is in
    let back : far_of net node port ≡ (end.0, end.1) =
    ap₂ (far_of net) (sym same.0) (sym same.1) ∙ labelled.back end.0 end.1 before.is_port in
    let above : node < end.0 = subst (λ (n : ℕ). node < n) (ap (λ (end : ℕ × ℕ). end.0) back) lesser in
    elim before.order [
      | inl less ↦ omega arith
      | inr less ↦ let one = less.0 in omega arith
    ]

new_link : (net : Network) (node port : ℕ) (before : List (ℕ × ℕ)) → IsPortLabelled net
    → AllByRecursion (IsBefore net node port) before → node < (far_of net node port).0 →
    is_dark (far_of net) before node port ≡ false
new_link net node port [] labelled all lesser = refl
new_link net node port (end ∷ before) labelled all lesser =
    or_false _ _
    (or_false _ _ (false_of _ (other_end net node port end all.0))
    (false_of _ (other_far net node port end labelled all.0 lesser)))
    (new_link net node port before labelled all.1 lesser)

all_weaker : {A : Type 0} (P Q : A → Type 0) (xs : List A) → ((x : A) → P x → Q x) → AllByRecursion P xs
    → AllByRecursion Q xs
all_weaker P Q [] weaker all = tt
all_weaker P Q (x ∷ xs) weaker all = (weaker x all.0, all_weaker P Q xs weaker all.1)

all_more : {A : Type 0} (P : A → Type 0) (xs : List A) (y : A) → AllByRecursion P xs → P y
    → AllByRecursion P (xs ++ y ∷ [])
all_more P [] y all is = (is, tt)
all_more P (x ∷ xs) y all is = (all.0, all_more P xs y all.1 is)

next_port : (net : Network) (node port : ℕ) (end : ℕ × ℕ) → IsBefore net node port end
    → IsBefore net node (port + 1) end
next_port net node port end before = record {
  is_port = before.is_port;
  order = elim before.order [ inl less ↦ inl less | inr less ↦ inr (less.0, let two = less.1 in omega arith) ];
}

next_node : (net : Network) (node port : ℕ) (end : ℕ × ℕ) → IsBefore net node port end → IsBefore net (node + 1) 0 end
next_node net node port end before = record {
  is_port = before.is_port;
  order = elim before.order [ inl less ↦ inl (omega arith) | inr less ↦ inl (let one = less.0 in omega arith) ];
}

-- links that fit after those before, and leave this number before the next
record AreFit (net : Network) (node port : ℕ) (before ends rest : List (ℕ × ℕ)) : Type 0 where
  pub fit : are_links_fit net before (ends ++ rest) ≡ are_links_fit net (before ++ ends) rest
  pub all : AllByRecursion (IsBefore net node port) (before ++ ends)

abbrev ends_from : (node port count : ℕ) → List (ℕ × ℕ)
ends_from node port count = map (λ (port : ℕ). (node, port)) (range_with_len port count)

links_fit_at : (net : Network) (test : ℕ → ℕ → Bool) (node port count : ℕ) (before rest : List (ℕ × ℕ))
    → IsPortLabelled net → port + count ≤ degree_of net node → AllByRecursion (IsBefore net node port) before →
    AreFit net node (port + count) before (filter (is_lesser_end net test) (ends_from node port count)) rest
links_fit_at net test node port zero before rest labelled within all = record {
  fit = ap (λ (all : List (ℕ × ℕ)). are_links_fit net all rest) (sym (append-nil before));
  all = subst (λ (all : List (ℕ × ℕ)). AllByRecursion (IsBefore net node (port + 0)) all) (sym (append-nil before))
      (subst (λ (n : ℕ). AllByRecursion (IsBefore net node n) before) (same port) all);
}
  where
    same : (n : ℕ) → n ≡ n + 0
    same n = omega arith
links_fit_at net test node port (suc count) before rest labelled within all =
    let ends = filter (is_lesser_end net test) (ends_from node (port + 1) count) in
    let moved : (port + 1) + count ≡ port + suc count = omega arith in
    by_cases (is_lesser_end net test (node, port))
    (AreFit net node (port + suc count) before
    (filter (is_lesser_end net test) (ends_from node port (suc count))) rest)
    (λ is.
    let lesser : node < (far_of net node port).0 = ltb-true _ _ (and_parts (test node port) _ is).1 in
    let here : IsBefore net node (port + 1) (node, port) =
    record { is_port = omega arith; order = inr (refl, omega arith) } in
    let more = links_fit_at net test node (port + 1) count (before ++ (node, port) ∷ []) rest labelled (omega arith)
    (all_more (IsBefore net node (port + 1)) before (node, port)
    (all_weaker (IsBefore net node port) (IsBefore net node (port + 1)) before (next_port net node port) all)
    here) in
    let is_ends : filter (is_lesser_end net test) (ends_from node port (suc count)) ≡ (node, port) ∷ ends =
    cond-true _ _ _ is in
    record {
      fit = ap (λ (ends : List (ℕ × ℕ)). are_links_fit net before (ends ++ rest)) is_ends
          ∙ ap (λ (b : Bool). b && are_links_fit net (before ++ (node, port) ∷ []) (ends ++ rest))
          (and_from _ _ (lt-ltb port (degree_of net node) (omega arith))
          (ap not (new_link net node port before labelled all lesser)))
          ∙ more.fit
          ∙ ap (λ (all : List (ℕ × ℕ)). are_links_fit net all rest)
          (append_assoc before ((node, port) ∷ []) ends
          ∙ ap (λ (ends : List (ℕ × ℕ)). before ++ ends) (sym is_ends));
      all = subst (λ (all : List (ℕ × ℕ)). AllByRecursion (IsBefore net node (port + suc count)) all)
          (append_assoc before ((node, port) ∷ []) ends ∙ ap (λ (ends : List (ℕ × ℕ)). before ++ ends) (sym is_ends))
          (subst (λ (n : ℕ). AllByRecursion (IsBefore net node n) ((before ++ (node, port) ∷ []) ++ ends))
          moved more.all);
    })
    (λ is_not.
    let more = links_fit_at net test node (port + 1) count before rest labelled (omega arith)
    (all_weaker (IsBefore net node port) (IsBefore net node (port + 1)) before (next_port net node port) all) in
    let is_ends : ends ≡ filter (is_lesser_end net test) (ends_from node port (suc count)) =
    sym (cond-false _ _ _ is_not) in
    subst (λ (ends : List (ℕ × ℕ)). AreFit net node (port + suc count) before ends rest) is_ends
    (subst (λ (n : ℕ). AreFit net node n before ends rest) moved more))

links_fit_from : (net : Network) (test : ℕ → ℕ → Bool) (node count : ℕ) (before : List (ℕ × ℕ)) → IsPortLabelled net
    → AllByRecursion (IsBefore net node 0) before →
    are_links_fit net before (flat_map (links_at net test) (range_with_len node count)) ≡ true
links_fit_from net test node zero before labelled all = refl
links_fit_from net test node (suc count) before labelled all =
    let rest = flat_map (links_at net test) (range_with_len (node + 1) count) in
    let here = links_fit_at net test node 0 (degree_of net node) before rest labelled (omega arith) all in
    here.fit ∙ links_fit_from net test (node + 1) count (before ++ links_at net test node) labelled
    (all_weaker (IsBefore net node (0 + degree_of net node)) (IsBefore net (node + 1) 0) _
    (next_node net node (0 + degree_of net node)) here.all)

pub links_fit : (net : Network) (test : ℕ → ℕ → Bool) → IsPortLabelled net
    → are_links_fit net [] (links_where net test) ≡ true
links_fit net test labelled = links_fit_from net test 0 (nodes_of net) [] labelled tt

-- the other limits

no_fault : (net : Network) (setup : Setup) → setup.home < nodes_of net → 1 ≤ setup.agents → setup.agents ≤ MAX_AGENTS
    → 1 ≤ setup.quota → setup.quota ≤ MAX_QUOTA → setup.board ≤ MAX_BOARD →
    are_holes_fit (nodes_of net) setup.home [] setup.holes ≡ true → are_links_fit net [] setup.dark ≡ true
    → first_fault net setup ≡ None
no_fault net setup home some_agents agents some_quota quota board holes dark =
    cond-false (not (nat_lt setup.home (nodes_of net))) _ _ (ap not (lt-ltb _ _ home))
    ∙ cond-false (not (are_holes_fit (nodes_of net) setup.home [] setup.holes)) _ _ (ap not holes)
    ∙ cond-false (not (is_within 1 MAX_AGENTS setup.agents)) _ _
    (ap not (and_from _ _ (le-leb _ _ some_agents) (le-leb _ _ agents)))
    ∙ cond-false (not (is_within 1 MAX_QUOTA setup.quota)) _ _
    (ap not (and_from _ _ (le-leb _ _ some_quota) (le-leb _ _ quota)))
    ∙ cond-false (not (nat_le setup.board MAX_BOARD)) _ _ (ap not (le-leb _ _ board))
    ∙ cond-false (not (are_links_fit net [] setup.dark)) _ _ (ap not dark)

-- other black holes in place of those of a setup in normal form
pub moved_fits : (net : Network) (setup : Setup) (test : ℕ → Bool) → IsPortLabelled net → IsWithinLimits net setup
    → IsNormal net setup → test setup.home ≡ false →
    first_fault net (record setup { holes = nodes_where net test }) ≡ None
moved_fits net setup test labelled within in_order clear =
    no_fault net (record setup { holes = nodes_where net test }) within.home within.some_agents within.agents
    within.some_quota within.quota within.board
    (nodes_fit net setup.home test clear)
    (ap (λ (setup : Setup). are_links_fit net [] setup.dark) (sym in_order.same)
    ∙ links_fit net (is_dark (far_of net) setup.dark) labelled)

pub home_clear : (net : Network) (setup : Setup) → IsWithinLimits net setup → is_hole setup.holes setup.home ≡ false
home_clear net setup within = false_of _ (λ is. (within.holes setup.home is).1 refl)

pub normal_fits : (net : Network) (setup : Setup) → IsPortLabelled net → IsWithinLimits net setup → IsNormal net setup
    → first_fault net setup ≡ None
normal_fits net setup labelled within in_order =
    ap (λ (holes : List ℕ). first_fault net (record setup { holes = holes }))
    (ap (λ (setup : Setup). setup.holes) (sym in_order.same))
    ∙ moved_fits net setup (is_hole setup.holes) labelled within in_order (home_clear net setup within)
