-- What the test of closed sets says.
use Rattle.std.proofs.Common.{ℕ, zero, suc, ◌≡◌, Bool, true, false, not, ◌||◌, Some, None, List, [], ◌∷◌, slice_get}
use Rattle.std.proofs.Common.{inl, inr, arith, refl, ap, ◌∙◌}
use Rattle.std.specs.List.{list_any}
use Rattle.std.proofs.lemmas.Bool.{and_from, and_parts, or_left, or_right, or_cases, false≢true}
use Rattle.bhs_model.specs.Cuts.{at_places, Footprint, needs, is_closed, has_place}
use Rattle.bhs_model.specs.Laws.{HasWhatIsAsked, ClosedMeans}
use Rattle.bhs_model.proofs.StepLemmas.{by_cases}
use Rattle.bhs_model.proofs.LeastCutLemmas.{chosen_if_asked}

pub none_there : {A : Type 0} (x : A) (P : Type 0) → None ≡ Some x → P
none_there x P e = cc

pub some_same : {A : Type 0} (x y : A) → Some x ≡ Some y → x ≡ y
some_same x y e = cc

-- a chosen place that passes is found
pub any_at : (test : Footprint → Bool) (footprints : List Footprint) (places : List Bool) (place : ℕ)
    (one : Footprint) →
    slice_get footprints place ≡ Some one → has_place places place ≡ true → test one ≡ true
    → list_any test (at_places footprints places) ≡ true
any_at test [] places place one is_there chosen passes = none_there one _ is_there
any_at test (first ∷ footprints) [] place one is_there chosen passes = absurd (false≢true chosen)
any_at test (first ∷ footprints) (true ∷ places) zero one is_there chosen passes =
    or_left _ _ (ap test (some_same first one is_there) ∙ passes)
any_at test (first ∷ footprints) (false ∷ places) zero one is_there chosen passes = absurd (false≢true chosen)
any_at test (first ∷ footprints) (true ∷ places) (suc place) one is_there chosen passes =
    or_right _ _ (any_at test footprints places place one is_there chosen passes)
any_at test (first ∷ footprints) (false ∷ places) (suc place) one is_there chosen passes =
    any_at test footprints places place one is_there chosen passes

pub record Found (test : Footprint → Bool) (footprints : List Footprint) (places : List Bool) : Type 0 where
  pub place : ℕ
  pub one : Footprint
  pub is_there : slice_get footprints place ≡ Some one
  pub chosen : has_place places place ≡ true
  pub passes : test one ≡ true

pub found_later : (test : Footprint → Bool) (first : Footprint) (footprints : List Footprint) (own : Bool)
    (places : List Bool) → Found test footprints places → Found test (first ∷ footprints) (own ∷ places)
found_later test first footprints own places f =
    record { place = suc f.place; one = f.one; is_there = f.is_there; chosen = f.chosen; passes = f.passes }

-- The item that the search returns stands at a chosen place.
pub find_at : (test : Footprint → Bool) (footprints : List Footprint) (places : List Bool)
    → list_any test (at_places footprints places) ≡ true → Found test footprints places
find_at test [] places some = absurd (false≢true some)
find_at test (first ∷ footprints) [] some = absurd (false≢true some)
find_at test (first ∷ footprints) (true ∷ places) some =
    elim (or_cases (test first) (list_any test (at_places footprints places)) some) [
      | inl passes ↦ record { place = zero; one = first; is_there = refl; chosen = refl; passes = passes }
      | inr later ↦ found_later test first footprints true places (find_at test footprints places later)
    ]
find_at test (first ∷ footprints) (false ∷ places) some =
    found_later test first footprints false places (find_at test footprints places some)

pub closed_has : (footprints : List Footprint) (places : List Bool) → is_closed footprints places ≡ true
    → HasWhatIsAsked footprints places
closed_has [] places closed early late one other before is_early is_late asked chosen = none_there one _ is_early
closed_has (first ∷ footprints) [] closed early late one other before is_early is_late asked chosen =
    absurd (false≢true chosen)
closed_has (first ∷ footprints) (own ∷ places) closed early zero one other before is_early is_late asked chosen =
    absurd (omega arith)
closed_has (first ∷ footprints) (own ∷ places) closed zero (suc late) one other before is_early is_late asked chosen =
    chosen_if_asked own _ (and_parts (own || not (list_any (needs first) (at_places footprints places))) _ closed).0
    (any_at (needs first) footprints places late other is_late chosen
    (ap (λ (early : Footprint). needs early other) (some_same first one is_early) ∙ asked))
closed_has (first ∷ footprints) (own ∷ places) closed (suc early) (suc late) one other before is_early
    is_late asked chosen =
    closed_has footprints places (and_parts (own || not (list_any (needs first) (at_places footprints places))) _
    closed).1 early late one other
    (omega arith) is_early is_late asked chosen

pub has_closed : (footprints : List Footprint) (places : List Bool) → HasWhatIsAsked footprints places
    → is_closed footprints places ≡ true
has_closed [] places has = refl
has_closed (first ∷ footprints) [] has = refl
has_closed (first ∷ footprints) (own ∷ places) has =
    and_from _ _
    (by_cases (list_any (needs first) (at_places footprints places)) _
    (λ some. let later = find_at (needs first) footprints places some in
    or_left own _ (has zero (suc later.place) first later.one (omega arith) refl later.is_there
    later.passes later.chosen))
    (λ unasked. or_right own _ (ap not unasked)))
    (has_closed footprints places (λ early late one other before is_early is_late asked chosen.
    has (suc early) (suc late) one other (omega arith) is_early is_late asked chosen))

pub closed_means_lemma : ClosedMeans
closed_means_lemma footprints places = (closed_has footprints places, has_closed footprints places)
