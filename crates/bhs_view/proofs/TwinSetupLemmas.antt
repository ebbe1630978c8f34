-- The setup of a twin, and its validity.
use Rattle.std.proofs.Common.{ℕ, ◌≡◌, ◌<◌, Bool, true, false, not, ◌&&◌, ◌||◌, ◌==◌, Option, Some, None, List, [], ◌∷◌}
use Rattle.std.proofs.Common.{if◌then◌else◌, inl, inr, refl, sym, ap, ◌∙◌, subst}
use Rattle.std.specs.Prelude.{filter, find}
use Rattle.std.specs.List.{list_any, range_with_len}
use Rattle.std.specs.Option.{option_or}
use Rattle.std.proofs.lemmas.Bool.{cond-true, cond-false, and_parts, and_from, or_cases, eqb-true, eq-eqb}
use Rattle.bhs_net.specs.Network.{Network, nodes_of, IsPortLabelled}
use Rattle.bhs_model.specs.declared.commands.Command.TheVariants.{Enter, Look, Write, Depart, Accuse, Leave, Bad}
use Rattle.bhs_model.specs.declared.events.Event.{Event}
use Rattle.bhs_model.specs.declared.events.Event.TheVariants.{Tell, Deliver, Close}
use Rattle.bhs_model.specs.declared.setups.Setup.{Setup}
use Rattle.bhs_model.specs.Worlds.{World, is_hole, is_dark}
use Rattle.bhs_model.specs.Runs.{Position, Before, At, Bound, After, State, initial, next, reply}
use Rattle.bhs_model.specs.Setups.{world_of, normal, nodes_where}
use Rattle.bhs_model.proofs.StepLemmas.{by_cases}
use Rattle.bhs_model.proofs.SameDoomLemmas.{iff_same, range_in, range_out, same_dark}
use Rattle.bhs_world.specs.Faults.{IsWithinLimits}
use Rattle.bhs_view.specs.Twins.{hole_beyond, hole_from, hole_accused, is_noted, first_accused_from, replaced, is_moved}
use Rattle.bhs_view.specs.Twins.{moved}
use Rattle.bhs_view.proofs.TwinLemmas.{HasMoved}

any_kept : (test p : ℕ → Bool) (xs : List ℕ) → list_any p (filter test xs) ≡ list_any (λ x. test x && p x) xs
any_kept test p [] = refl
any_kept test p (x ∷ xs) = go (test x) ∙ ap (λ (rest : Bool). (test x && p x) || rest) (any_kept test p xs)
  where
    go : (b : Bool) → list_any p (if b then x ∷ filter test xs else filter test xs) ≡ ((b && p x) || list_any p
        (filter test xs))
    go true = refl
    go false = refl

-- the holes that a test makes
pub holes_where : (net : Network) (test : ℕ → Bool) (node : ℕ) → (test node ≡ true → node < nodes_of net)
    → is_hole (nodes_where net test) node ≡ test node
holes_where net test node within =
    let p : ℕ → Bool = λ hole. hole == node in
    let kept = any_kept test p (range_with_len 0 (nodes_of net)) in
    iff_same _ _
    (λ is.
    let found = range_out (λ x. test x && p x) (nodes_of net) (sym kept ∙ is) in
    let parts = and_parts (test found.0) (p found.0) found.2 in
    ap test (sym (eqb-true found.0 node parts.1)) ∙ parts.0)
    (λ is. kept ∙ range_in (λ x. test x && p x) (nodes_of net) node (within is)
    (and_from _ _ is (eq-eqb node node refl)))

-- the hole that gives way is a hole

beyond_is_hole : (world : World) (node port hole : ℕ) → hole_beyond world node port ≡ Some hole
    → is_hole world.holes hole ≡ true
beyond_is_hole world node port hole is =
    let far = (world.net.far node port).0 in
    let test = is_hole world.holes far && not (is_dark world.net.far world.dark node port) in
    by_cases test (is_hole world.holes hole ≡ true)
    (λ yes.
    let same : Some far ≡ Some hole = sym (cond-true test (Some far) None yes) ∙ is in
    ap (is_hole world.holes) (sym (some_same far hole same)) ∙ (and_parts (is_hole world.holes far) _ yes).0)
    (λ no. absurd (none_some hole (sym (cond-false test (Some far) None no) ∙ is)))
  where
    some_same : (a b : ℕ) → Some a ≡ Some b → a ≡ b
    some_same a b e = cc

    none_some : (a : ℕ) → None ≡ Some a → ⊥
    none_some a e = cc

from_is_hole : (world : World) (position : Position) (port hole : ℕ) → hole_from world position port ≡ Some hole
    → is_hole world.holes hole ≡ true
from_is_hole world (At node came) port hole is = beyond_is_hole world node port hole is
from_is_hole world Before port hole is = cc
from_is_hole world (Bound node other) port hole is = cc
from_is_hole world After port hole is = cc

accused_is_hole : (world : World) (state : State) (event : Event) (hole : ℕ)
    → hole_accused world state event ≡ Some hole → is_hole world.holes hole ≡ true
accused_is_hole world state (Tell agent (Accuse port)) hole is =
    by_cases (is_noted (reply world state (Tell agent (Accuse port)))) _
    (λ yes. from_is_hole world (state.position agent) port hole (sym (cond-true _ _ _ yes) ∙ is))
    (λ no. absurd (none_some (sym (cond-false _ _ _ no) ∙ is)))
  where
    none_some : None ≡ Some hole → ⊥
    none_some e = cc
accused_is_hole world state (Tell agent Enter) hole is = cc
accused_is_hole world state (Tell agent Look) hole is = cc
accused_is_hole world state (Tell agent (Write expect put)) hole is = cc
accused_is_hole world state (Tell agent (Depart port)) hole is = cc
accused_is_hole world state (Tell agent Leave) hole is = cc
accused_is_hole world state (Tell agent Bad) hole is = cc
accused_is_hole world state (Deliver agent) hole is = cc
accused_is_hole world state Close hole is = cc

-- case analysis: the first option has a value, or the second one counts
pub option_cases : (P : ℕ → Type 0) (one two : Option ℕ) → ((hole : ℕ) → one ≡ Some hole → P hole)
    → ((hole : ℕ) → two ≡ Some hole → P hole) → (hole : ℕ) → option_or one two ≡ Some hole → P hole
option_cases P (Some first) two here there hole is = here hole is
option_cases P None two here there hole is = there hole is

first_is_hole : (world : World) (state : State) (events : List Event) (hole : ℕ)
    → first_accused_from world state events ≡ Some hole → is_hole world.holes hole ≡ true
first_is_hole world state [] hole is = cc
first_is_hole world state (event ∷ events) hole is =
    option_cases (λ hole. is_hole world.holes hole ≡ true) (hole_accused world state event)
    (first_accused_from world (next world state event) events)
    (accused_is_hole world state event) (first_is_hole world (next world state event) events) hole is

pub found_passes : (test : ℕ → Bool) (xs : List ℕ) (x : ℕ) → find test xs ≡ Some x → test x ≡ true
found_passes test [] x is = cc
found_passes test (y ∷ xs) x is =
    by_cases (test y) _
    (λ yes. ap test (sym (some_same (sym (cond-true (test y) (Some y) (find test xs) yes) ∙ is))) ∙ yes)
    (λ no. found_passes test xs x (sym (cond-false (test y) (Some y) (find test xs) no) ∙ is))
  where
    some_same : Some y ≡ Some x → y ≡ x
    some_same e = cc

pub replaced_is_hole : (world : World) (events : List Event) (hole : ℕ) → replaced world events ≡ Some hole
    → is_hole world.holes hole ≡ true
replaced_is_hole world events =
    option_cases (λ hole. is_hole world.holes hole ≡ true) (first_accused_from world initial events)
    (find (is_hole world.holes) (range_with_len 0 world.net.nodes))
    (first_is_hole world initial events) (found_passes (is_hole world.holes) (range_with_len 0 world.net.nodes))

-- a hole once one has given way is a node

moved_within : (net : Network) (setup : Setup) (old : Option ℕ) (new node : ℕ) → IsWithinLimits net setup
    → new < nodes_of net → is_moved setup.holes old new node ≡ true → node < nodes_of net
moved_within net setup old new node within is_node is = elim (or_cases (node == new) _ is) [
  | inl same ↦ subst (λ (n : ℕ). n < nodes_of net) (sym (eqb-true node new same)) is_node
  | inr hole ↦ (within.holes node (and_parts (is_hole setup.holes node) _ hole).0).0
]

pub has_moved : (net : Network) (setup : Setup) (events : List Event) (new : ℕ) → IsPortLabelled net
    → IsWithinLimits net setup → new < nodes_of net →
    let old = replaced (world_of net setup) events in
    HasMoved (world_of net setup) (normal net (moved net setup old new)).holes
    (normal net (moved net setup old new)).dark old new
has_moved net setup events new labelled within is_node =
    let old = replaced (world_of net setup) events in
    let test = is_moved setup.holes old new in
    let once : (node : ℕ) → is_hole (nodes_where net test) node ≡ test node =
    λ node. holes_where net test node (moved_within net setup old new node within is_node) in
    record {
      same_links = λ node port. same_dark net setup.dark labelled within.dark node port;
      one_hole = λ node.
          holes_where net (is_hole (nodes_where net test)) node
          (λ is. moved_within net setup old new node within is_node (sym (once node) ∙ is)) ∙ once node;
      was_hole = replaced_is_hole (world_of net setup) events;
    }
