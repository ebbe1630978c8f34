-- The cut of an agent is the least closed set of places that has all places of the agent.
use Rattle.std.proofs.Common.{ℕ, zero, suc, ◌≡◌, Bool, true, false, not, ◌||◌, Option, Some, None, List, [], ◌∷◌, inl}
use Rattle.std.proofs.Common.{inr, refl, sym, ap, ◌∙◌}
use Rattle.std.specs.List.{list_any}
use Rattle.std.proofs.lemmas.Bool.{and_from, and_parts, or_left, or_right, or_cases, eqb-true, eq-eqb, false≢true}
use Rattle.bhs_model.specs.Cuts.{at_places, Footprint, footprints, meet, needs, is_closed, IsWithin, HasAllOf, cut}
use Rattle.bhs_model.specs.Laws.{CutsAreLeast}

pub chosen_or_unasked : (own asked : Bool) → ((own || asked) || not asked) ≡ true
chosen_or_unasked true asked = refl
chosen_or_unasked false true = refl
chosen_or_unasked false false = refl

pub cut_closed : (agent : ℕ) (footprints : List Footprint) → is_closed footprints (cut agent footprints) ≡ true
cut_closed agent [] = refl
cut_closed agent (early ∷ footprints) =
    and_from _ _ (chosen_or_unasked (meet (Some agent) early.who)
    (list_any (needs early) (at_places footprints (cut agent footprints)))) (cut_closed agent footprints)

pub cut_own : (agent : ℕ) (footprints : List Footprint) → HasAllOf agent footprints (cut agent footprints)
cut_own agent [] place is_own = absurd (none_some is_own)
  where
    none_some : None ≡ Some agent → ⊥
    none_some e = cc
cut_own agent (early ∷ footprints) zero is_own =
    or_left _ _ (ap (λ (who : Option ℕ). meet (Some agent) who) is_own ∙ eq-eqb agent agent refl)
cut_own agent (early ∷ footprints) (suc place) is_own = cut_own agent footprints place is_own

pub at_none : {A : Type 0} (xs : List A) → at_places xs [] ≡ []
at_none [] = refl
at_none (x ∷ xs) = refl

pub closed_none : (footprints : List Footprint) → is_closed footprints [] ≡ true
closed_none [] = refl
closed_none (early ∷ footprints) = refl

-- what passes at a place of a set passes at a place of each larger set
pub any_within : (test : Footprint → Bool) (footprints : List Footprint) (places others : List Bool)
    → IsWithin places others →
    list_any test (at_places footprints places) ≡ true → list_any test (at_places footprints others) ≡ true
any_within test [] places others within some = some
any_within test (late ∷ footprints) [] others within some = absurd (false≢true some)
any_within test (late ∷ footprints) (true ∷ places) [] within some = absurd (false≢true (within 0 refl))
any_within test (late ∷ footprints) (true ∷ places) (false ∷ others) within some = absurd (false≢true (within 0 refl))
any_within test (late ∷ footprints) (true ∷ places) (true ∷ others) within some =
    elim (or_cases (test late) (list_any test (at_places footprints places)) some) [
      | inl passes ↦ or_left _ _ passes
      | inr later ↦ or_right _ _ (any_within test footprints places others (λ place. within (suc place)) later)
    ]
any_within test (late ∷ footprints) (false ∷ places) [] within some =
    ap (list_any test) (sym (at_none footprints))
    ∙ any_within test footprints places [] (λ place. within (suc place)) some
any_within test (late ∷ footprints) (false ∷ places) (true ∷ others) within some =
    or_right _ _ (any_within test footprints places others (λ place. within (suc place)) some)
any_within test (late ∷ footprints) (false ∷ places) (false ∷ others) within some =
    any_within test footprints places others (λ place. within (suc place)) some

pub met : (agent : ℕ) (who : Option ℕ) → meet (Some agent) who ≡ true → who ≡ Some agent
met agent None meeting = absurd (false≢true meeting)
met agent (Some other) meeting = ap Some (sym (eqb-true agent other meeting))

pub chosen_if_asked : (chosen asked : Bool) → (chosen || not asked) ≡ true → asked ≡ true → chosen ≡ true
chosen_if_asked true asked closed is_asked = refl
chosen_if_asked false true closed is_asked = closed
chosen_if_asked false false closed is_asked = is_asked

pub cut_least : (agent : ℕ) (footprints : List Footprint) (others : List Bool) → is_closed footprints others ≡ true
    → HasAllOf agent footprints others →
    IsWithin (cut agent footprints) others
cut_least agent [] others closed own place chosen = absurd (false≢true chosen)
cut_least agent (early ∷ footprints) [] closed own zero chosen =
    elim (or_cases (meet (Some agent) early.who)
    (list_any (needs early) (at_places footprints (cut agent footprints))) chosen) [
      | inl meeting ↦ own 0 (met agent early.who meeting)
      | inr asked ↦ ap (list_any (needs early)) (sym (at_none footprints))
          ∙ any_within (needs early) footprints (cut agent footprints) []
          (cut_least agent footprints [] (closed_none footprints) (λ place. own (suc place))) asked
    ]
cut_least agent (early ∷ footprints) [] closed own (suc place) chosen =
    cut_least agent footprints [] (closed_none footprints) (λ later. own (suc later)) place chosen
cut_least agent (early ∷ footprints) (other ∷ others) closed own zero chosen =
    let parts = and_parts (other || not (list_any (needs early) (at_places footprints others))) _ closed in
    elim (or_cases (meet (Some agent) early.who)
    (list_any (needs early) (at_places footprints (cut agent footprints))) chosen) [
      | inl meeting ↦ own 0 (met agent early.who meeting)
      | inr asked ↦ chosen_if_asked other _ parts.0
          (any_within (needs early) footprints (cut agent footprints) others
          (cut_least agent footprints others parts.1 (λ place. own (suc place))) asked)
    ]
cut_least agent (early ∷ footprints) (other ∷ others) closed own (suc place) chosen =
    let parts = and_parts (other || not (list_any (needs early) (at_places footprints others))) _ closed in
    cut_least agent footprints others parts.1 (λ later. own (suc later)) place chosen

pub cuts_are_least_lemma : CutsAreLeast
cuts_are_least_lemma world events agent = record {
  closed = cut_closed agent (footprints world events);
  own = cut_own agent (footprints world events);
  least = cut_least agent (footprints world events);
}
