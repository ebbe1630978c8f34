-- The walk back over a set of places: the least place that is lacking.
use Rattle.std.proofs.Common.{ℕ, suc, ◌<◌, ◌≡◌, Bool, true, false, not, ◌&&◌, ◌||◌, Option, Some, None, List, [], ◌∷◌}
use Rattle.std.proofs.Common.{length, drop, get_or, refl, sym, ap, ap₂, ◌∙◌, arith}
use Rattle.std.specs.Prelude.{slice_index_or}
use Rattle.std.specs.List.{list_any}
use Rattle.std.proofs.Math.Seq.{drop-cons}
use Rattle.std.proofs.lemmas.Bool.{cond-true, cond-false, and_from}
use Rattle.std.proofs.lemmas.List.{drop_all}
use Rattle.bhs_model.specs.declared.marks.Kept.{Kept}
use Rattle.bhs_model.specs.Cuts.{at_places, Footprint, needs, is_closed}
use Rattle.bhs_model.proofs.StepLemmas.{by_cases}
use Rattle.bhs_match.specs.Matches.{Play}
use Rattle.bhs_view.specs.Places.{misplaced}
use Rattle.bhs_view.specs.Restrictions.{unclosed_from, fault_of, first_fault}
use Rattle.bhs_view.proofs.CutLemmas.{IsKnown}
use Rattle.bhs_view.proofs.SetLemmas.{IsSetOf, set_same}
use Rattle.bhs_view.specs.Walks.{seen_by, footprint_at, footprints_at, Needed, is_needed, needed_after}
use Rattle.bhs_view.specs.Walks.{IsInRange, AreNeeded}
use Rattle.bhs_view.proofs.BackLemmas.{needed_same, needed_more, length_footprints_at, IsThere}

-- The invariant of the backward walk at a place, given the footprints and the part of the set from there on.
pub record IsJudged (needed : Needed) (place : ℕ) (footprints : List Footprint) (set : List Bool)
    (lacking : Option ℕ) : Type 0 where
  pub are_needed : AreNeeded needed None (at_places footprints set)
  pub least : lacking ≡ unclosed_from place footprints set

pub judged_at_first : (log : List Kept) (sites : List (Option ℕ)) (set : List Bool) (needed : Needed) (place : ℕ)
    → length sites ≡ length log → length set ≡ length log → place ≡ length log → AreNeeded needed None [] →
    IsJudged needed place (drop place (footprints_at log sites)) (drop place set) None
judged_at_first log sites set needed place same as_many is_last are =
    let footprints = length_footprints_at log sites same in
    let none : drop place (footprints_at log sites) ≡ [] = drop_all place _ (omega arith) in
    rw none (record { are_needed = are; least = refl })

judged_chosen : (needed : Needed) (place : ℕ) (rest : List Footprint) (set : List Bool) (least : Option ℕ)
    (footprint : Footprint) → IsJudged needed (suc place) rest set least →
    IsJudged (needed_after needed footprint) place (footprint ∷ rest) (true ∷ set) least
judged_chosen needed place rest set least footprint judged = record {
  are_needed = needed_more needed None _ footprint judged.are_needed;
  least = judged.least;
}

lacking_same : (needed : Needed) (rest : List Footprint) (set : List Bool) (one : Kept) (site : Option ℕ)
    → AreNeeded needed None (at_places rest set) → IsInRange (length needed.agents) (length needed.nodes)
    (footprint_at one site) →
    is_needed needed (footprint_at one site) ≡ list_any (needs (footprint_at one site)) (at_places rest set)
lacking_same needed rest set one site are within =
    needed_same needed None _ one.event (seen_by one.event one.mark site) are within

-- the set at a place

set_at : (set : List Bool) (place : ℕ) (chosen : Bool) → place < length set → get_or set place false ≡ chosen
    → drop place set ≡ chosen ∷ drop (suc place) set
set_at set place chosen within is = drop-cons set place false within ∙ ap (λ (b : Bool). b ∷ drop (suc place) set) is

pub step_chosen : (log : List Kept) (sites : List (Option ℕ)) (set : List Bool) (needed after : Needed) (place next : ℕ)
    (least : Option ℕ) (one : Kept) →
    IsThere log sites (length needed.agents) (length needed.nodes) place one → next ≡ suc place → place < length set
    → get_or set place false ≡ true →
    IsJudged needed next (drop next (footprints_at log sites)) (drop next set) least
    → after ≡ needed_after needed (footprint_at one (slice_index_or sites place None)) →
    IsJudged after place (drop place (footprints_at log sites)) (drop place set) least
step_chosen log sites set needed after place next least one is_there is_next within chosen judged is_after =
    rw (is_there.footprints, set_at set place true within chosen, is_after)
    (judged_chosen needed place _ _ least _ (rw is_next at judged))

pub step_lacking : (log : List Kept) (sites : List (Option ℕ)) (set : List Bool) (needed : Needed) (place next : ℕ)
    (least : Option ℕ) (one : Kept) →
    IsThere log sites (length needed.agents) (length needed.nodes) place one → next ≡ suc place → place < length set
    → get_or set place false ≡ false →
    IsJudged needed next (drop next (footprints_at log sites)) (drop next set) least
    → is_needed needed (footprint_at one (slice_index_or sites place None)) ≡ true →
    IsJudged needed place (drop place (footprints_at log sites)) (drop place set) (Some place)
step_lacking log sites set needed place next least one is_there is_next within omitted judged has =
    let later = rw is_next at judged in
    let rest = drop (suc place) (footprints_at log sites) in
    let marks = drop (suc place) set in
    let needing = list_any (needs (footprint_at one (slice_index_or sites place None))) (at_places rest marks) in
    rw (is_there.footprints, set_at set place false within omitted)
    (record {
      are_needed = later.are_needed;
      least = sym (cond-true needing (Some place) (unclosed_from (suc place) rest marks)
          (sym (lacking_same needed rest marks one (slice_index_or sites place None) later.are_needed is_there.within)
          ∙ has));
    })

pub step_spared : (log : List Kept) (sites : List (Option ℕ)) (set : List Bool) (needed : Needed) (place next : ℕ)
    (least : Option ℕ) (one : Kept) →
    IsThere log sites (length needed.agents) (length needed.nodes) place one → next ≡ suc place → place < length set
    → get_or set place false ≡ false →
    IsJudged needed next (drop next (footprints_at log sites)) (drop next set) least
    → is_needed needed (footprint_at one (slice_index_or sites place None)) ≡ false →
    IsJudged needed place (drop place (footprints_at log sites)) (drop place set) least
step_spared log sites set needed place next least one is_there is_next within omitted judged has =
    let later = rw is_next at judged in
    let rest = drop (suc place) (footprints_at log sites) in
    let marks = drop (suc place) set in
    let needing = list_any (needs (footprint_at one (slice_index_or sites place None))) (at_places rest marks) in
    rw (is_there.footprints, set_at set place false within omitted)
    (record {
      are_needed = later.are_needed;
      least = later.least
          ∙ sym (cond-false needing (Some place) (unclosed_from (suc place) rest marks)
          (sym (lacking_same needed rest marks one (slice_index_or sites place None) later.are_needed
          is_there.within) ∙ has));
    })

-- where no place is lacking the set is closed

closed_test : (chosen needed : Bool) → (not chosen && needed) ≡ false → (chosen || not needed) ≡ true
closed_test true needed none = refl
closed_test false needed none = ap not none

none_some : (place : ℕ) → Some place ≡ None → ⊥
none_some place e = cc

pub unclosed_means : (place : ℕ) (footprints : List Footprint) (set : List Bool)
    → unclosed_from place footprints set ≡ None → is_closed footprints set ≡ true
unclosed_means place [] set none = refl
unclosed_means place (early ∷ footprints) [] none = refl
unclosed_means place (early ∷ footprints) (chosen ∷ set) none =
    by_cases (not chosen && list_any (needs early) (at_places footprints set)) _
    (λ is. absurd (none_some place (sym (cond-true _ _ _ is) ∙ none)))
    (λ is_not. and_from _ _ (closed_test chosen _ is_not)
    (unclosed_means (suc place) footprints set (sym (cond-false _ _ _ is_not) ∙ none)))

-- the fault that is told

pub judged_fault : (play : Play) (places : List ℕ) (log : List Kept) (found : List (Option ℕ))
    (set marks : List Bool) (index lacking : Option ℕ) → log ≡ play.log → marks ≡ set
    → IsKnown play found → IsSetOf set places (length log) →
    index ≡ misplaced (length log) places → index ≡ None → lacking ≡ unclosed_from 0 (footprints_at log found) marks
    → first_fault play places ≡ fault_of None lacking
judged_fault play places log found set marks index lacking is_log is_marks known are is_index
    none is_lacking =
    ap₂ fault_of (ap (λ (log : List Kept). misplaced (length log) places) (sym is_log) ∙ sym is_index ∙ none)
    (ap₂ (unclosed_from 0)
    (sym known.footprints ∙ ap (λ (log : List Kept). footprints_at log found) (sym is_log))
    (sym (set_same set places play.log (rw is_log at are)) ∙ sym is_marks)
    ∙ sym is_lacking)
