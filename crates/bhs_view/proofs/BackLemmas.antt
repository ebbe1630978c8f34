-- The walk back: what is needed is what the chosen places need.
use Rattle.std.proofs.Common.{ℕ, zero, suc, ◌<◌, ◌≡◌, Bool, true, false, ◌&&◌, ◌||◌, Option, Some, None, List, [], ◌∷◌}
use Rattle.std.proofs.Common.{◌++◌, length, drop, get_or, refl, sym, ap, ◌∙◌, subst, arith, inl, inr, get_or-set_same}
use Rattle.std.proofs.Common.{get_or-set_other}
use Rattle.std.specs.Prelude.{slice_index_or, IfSome, reverse}
use Rattle.std.specs.List.{list_any, AllByRecursion}
use Rattle.std.proofs.lemmas.Bool.{cond-true, cond-false}
use Rattle.std.proofs.lemmas.Bool.Decides.{eqb_tells}
use Rattle.std.proofs.lemmas.List.{length-set, get_or_default, drop_all}
use Rattle.std.proofs.lemmas.Grind.{reverse_onto}
use Rattle.bhs_model.specs.declared.events.Event.{Event}
use Rattle.bhs_model.specs.declared.events.Event.TheVariants.{Tell, Deliver, Close}
use Rattle.bhs_model.specs.declared.commands.Command.TheVariants.{Write}
use Rattle.bhs_model.specs.declared.marks.Kept.{Kept}
use Rattle.bhs_model.specs.Cuts.{at_places, Footprint, meet, needs, cut}
use Rattle.bhs_view.specs.Places.{places_from}
use Rattle.bhs_view.specs.Walks.{footprint_by, footprint_at, footprints_at, written_by, Needed, marked, marks_with}
use Rattle.bhs_view.specs.Walks.{is_needed, needed_after, IsInRange, AreInRange, AreNeeded}

-- tests on lists

any_or : (p q : Footprint → Bool) (xs : List Footprint)
    → list_any (λ x. p x || q x) xs ≡ (list_any p xs || list_any q xs)
any_or p q [] = refl
any_or p q (x ∷ xs) = ap (λ (b : Bool). (p x || q x) || b) (any_or p q xs)
    ∙ mix (p x) (q x) (list_any p xs) (list_any q xs)
  where
    mix : (a b c d : Bool) → ((a || b) || (c || d)) ≡ ((a || c) || (b || d))
    mix true b c d = refl
    mix false true true d = refl
    mix false true false d = refl
    mix false false c d = refl

any_and : (b : Bool) (xs : List Footprint) → list_any (λ x. b) xs ≡ (b && list_any (λ x. true) xs)
any_and true [] = refl
any_and false [] = refl
any_and true (x ∷ xs) = refl
any_and false (x ∷ xs) = any_and false xs ∙ none (list_any (λ x. true) xs)
  where
    none : (b : Bool) → (false && b) ≡ false
    none b = refl

meet_none : (one : Option ℕ) → meet one None ≡ false
meet_none None = refl
meet_none (Some one) = refl

any_never : (p : Footprint → Bool) (xs : List Footprint) → ((x : Footprint) → p x ≡ false) → list_any p xs ≡ false
any_never p [] never = refl
any_never p (x ∷ xs) never = ap (λ (b : Bool). b || list_any p xs) (never x) ∙ any_never p xs never

-- what a place needs is what the marks say
any_needs : (early : Footprint) (chosen : List Footprint) →
    list_any (needs early) chosen ≡ ((early.closes && list_any (λ late. true) chosen) ||
    (list_any (λ late. meet late.who early.who) chosen || list_any (λ late. meet late.seen early.written) chosen))
any_needs early chosen =
    any_or (λ late. early.closes) (λ late. meet late.who early.who || meet late.seen early.written) chosen
    ∙ ap (λ (b : Bool). b || list_any (λ late. meet late.who early.who || meet late.seen early.written) chosen)
    (any_and early.closes chosen)
    ∙ ap (λ (b : Bool). (early.closes && list_any (λ late. true) chosen) || b)
    (any_or (λ late. meet late.who early.who) (λ late. meet late.seen early.written) chosen)

marked_agent : (needed : Needed) (own : Option ℕ) (chosen : List Footprint) (who : Option ℕ)
    → AreNeeded needed own chosen → IfSome who (λ agent. agent < length needed.agents) →
    marked needed.agents who ≡ (meet own who || list_any (λ late. meet late.who who) chosen)
marked_agent needed own chosen None are_needed within =
    sym (ap (λ (b : Bool). b || list_any (λ late. meet late.who None) chosen) (meet_none own)
    ∙ any_never (λ late. meet late.who None) chosen (λ late. meet_none late.who))
marked_agent needed own chosen (Some agent) are_needed within = are_needed.agents agent within

marked_node : (needed : Needed) (own : Option ℕ) (chosen : List Footprint) (written : Option ℕ)
    → AreNeeded needed own chosen → IfSome written (λ node. node < length needed.nodes) →
    marked needed.nodes written ≡ list_any (λ late. meet late.seen written) chosen
marked_node needed own chosen None are_needed within =
    sym (any_never (λ late. meet late.seen None) chosen (λ late. meet_none late.seen))
marked_node needed own chosen (Some node) are_needed within = are_needed.nodes node within

written_within : (event : Event) (seen : Option ℕ) (nodes : ℕ) → IfSome seen (λ node. node < nodes)
    → IfSome (written_by event seen) (λ node. node < nodes)
written_within (Tell agent (Write expect put)) seen nodes within = within
written_within (Tell agent command) seen nodes within = tt
written_within (Deliver agent) seen nodes within = tt
written_within Close seen nodes within = tt

turned : (a b c d : Bool) → (a || ((b || c) || d)) ≡ (b || (a || (c || d)))
turned true true c d = refl
turned true false c d = refl
turned false true c d = refl
turned false false c d = refl

pub needed_same : (needed : Needed) (own : Option ℕ) (chosen : List Footprint) (event : Event) (seen : Option ℕ)
    → AreNeeded needed own chosen → IsInRange (length needed.agents) (length needed.nodes) (footprint_by event seen) →
    is_needed needed (footprint_by event seen) ≡ (meet own (footprint_by event seen).who || list_any
    (needs (footprint_by event seen)) chosen)
needed_same needed own chosen event seen are_needed within =
    let early = footprint_by event seen in
    let agents = marked_agent needed own chosen early.who are_needed within.who in
    let nodes = marked_node needed own chosen early.written are_needed
    (written_within event seen (length needed.nodes) within.seen) in
    ap (λ (b : Bool). (early.closes && b) || (marked needed.agents early.who || marked needed.nodes early.written))
    are_needed.any
    ∙ ap (λ (b : Bool). (early.closes && list_any (λ late. true) chosen) || (b || marked needed.nodes early.written))
    agents
    ∙ ap (λ (b : Bool). (early.closes && list_any (λ late. true) chosen) ||
    ((meet own early.who || list_any (λ late. meet late.who early.who) chosen) || b)) nodes
    ∙ turned (early.closes && list_any (λ late. true) chosen) (meet own early.who) _ _
    ∙ ap (λ (b : Bool). meet own early.who || b) (sym (any_needs early chosen))

-- marking one more
marks_more : (marks : List Bool) (place : Option ℕ) (other : ℕ) → other < length marks
    → slice_index_or (marks_with marks place) other
    false ≡ (meet place (Some other) || slice_index_or marks other false)
marks_more marks None other within = refl
marks_more marks (Some place) other within = elim (eqb_tells place other) [
  | inl h ↦ rw h.0 (rw (sym h.1) (get_or-set_same marks place true false
      (subst (λ (k : ℕ). k < length marks) (sym h.1) within)))
  | inr h ↦ rw h.0 (get_or-set_other marks place other true false (λ e. h.1 (sym e)))
]

pub length_marks : (marks : List Bool) (place : Option ℕ) → length (marks_with marks place) ≡ length marks
length_marks marks None = refl
length_marks marks (Some place) = length-set marks place true

swapped_or : (a b c : Bool) → (a || (b || c)) ≡ (b || (a || c))
swapped_or true true c = refl
swapped_or true false c = refl
swapped_or false b c = refl

pub needed_more : (needed : Needed) (own : Option ℕ) (chosen : List Footprint) (footprint : Footprint)
    → AreNeeded needed own chosen → AreNeeded (needed_after needed footprint) own (footprint ∷ chosen)
needed_more needed own chosen footprint are_needed = record {
  agents = λ agent within.
      let old : agent < length needed.agents =
      subst (λ (n : ℕ). agent < n) (length_marks needed.agents footprint.who) within in
      marks_more needed.agents footprint.who agent old
      ∙ ap (λ (b : Bool). meet footprint.who (Some agent) || b) (are_needed.agents agent old)
      ∙ swapped_or (meet footprint.who (Some agent)) (meet own (Some agent)) _;
  nodes = λ node within.
      let old : node < length needed.nodes = subst (λ (n : ℕ). node < n)
      (length_marks needed.nodes footprint.seen) within in
      marks_more needed.nodes footprint.seen node old
      ∙ ap (λ (b : Bool). meet footprint.seen (Some node) || b) (are_needed.nodes node old);
  any = refl;
}

-- The invariant of the backward walk at a place, given the footprints from there on.
pub record IsBack (needed : Needed) (agent place : ℕ) (footprints : List Footprint) (places : List ℕ) : Type 0 where
  pub are_needed : AreNeeded needed (Some agent) (at_places footprints (cut agent footprints))
  pub found : places ≡ reverse (places_from place (cut agent footprints))

chosen_first : (place : ℕ) (own : Bool) (others : List Bool) → own ≡ true
    → places_from place (own ∷ others) ≡ place ∷ places_from (suc place) others
chosen_first place own others chosen = cond-true own _ _ chosen

omitted_first : (place : ℕ) (own : Bool) (others : List Bool) → own ≡ false
    → places_from place (own ∷ others) ≡ places_from (suc place) others
omitted_first place own others omitted = cond-false own _ _ omitted

back_chosen : (needed : Needed) (agent place : ℕ) (rest : List Footprint) (places : List ℕ) (event : Event)
    (seen : Option ℕ) →
    IsInRange (length needed.agents) (length needed.nodes) (footprint_by event seen) →
    is_needed needed (footprint_by event seen) ≡ true → IsBack needed agent (suc place) rest places →
    IsBack (needed_after needed (footprint_by event seen)) agent place (footprint_by event seen ∷ rest)
    (places ++ place ∷ [])
back_chosen needed agent place rest places event seen within is back =
    let footprint = footprint_by event seen in
    let own : (meet (Some agent) footprint.who || list_any (needs footprint) (at_places rest (cut agent rest))) ≡ true =
    sym (needed_same needed (Some agent) _ event seen back.are_needed within) ∙ is in
    record {
      are_needed = subst (λ (chosen : List Footprint). AreNeeded (needed_after needed footprint) (Some agent) chosen)
          (sym (cond-true _ _ _ own)) (needed_more needed (Some agent) _ footprint back.are_needed);
      found = ap (λ (before : List ℕ). before ++ place ∷ []) back.found
          ∙ sym (reverse_onto (places_from (suc place) (cut agent rest)) place [])
          ∙ ap reverse (sym (chosen_first place _ (cut agent rest) own));
    }

back_omitted : (needed : Needed) (agent place : ℕ) (rest : List Footprint) (places : List ℕ) (event : Event)
    (seen : Option ℕ) →
    IsInRange (length needed.agents) (length needed.nodes) (footprint_by event seen) →
    is_needed needed (footprint_by event seen) ≡ false → IsBack needed agent (suc place) rest places →
    IsBack needed agent place (footprint_by event seen ∷ rest) places
back_omitted needed agent place rest places event seen within is back =
    let footprint = footprint_by event seen in
    let own : (meet (Some agent) footprint.who || list_any (needs footprint)
    (at_places rest (cut agent rest))) ≡ false = sym
    (needed_same needed (Some agent) _ event seen back.are_needed within) ∙ is in
    record {
      are_needed = subst (λ (chosen : List Footprint). AreNeeded needed (Some agent) chosen)
          (sym (cond-false _ _ _ own)) back.are_needed;
      found = back.found ∙ ap reverse (sym (omitted_first place _ (cut agent rest) own));
    }

-- the lists at a place

pub drop_footprints : (log : List Kept) (sites : List (Option ℕ)) (place : ℕ) (one : Kept) (site : Option ℕ)
    → length sites ≡ length log → place < length log →
    get_or log place one ≡ one → get_or sites place site ≡ site → drop place (footprints_at log sites) ≡ footprint_at
    one site ∷ drop (suc place) (footprints_at log sites)
drop_footprints [] sites place one site same within is_one is_site = absurd (omega arith)
drop_footprints (first ∷ log) [] place one site same within is_one is_site = absurd (omega arith)
drop_footprints (first ∷ log) (other ∷ sites) zero one site same within is_one is_site = rw (is_one, is_site) refl
drop_footprints (first ∷ log) (other ∷ sites) (suc place) one site same within is_one is_site =
    drop_footprints log sites place one site (omega arith) (omega arith) is_one is_site

pub length_footprints_at : (log : List Kept) (sites : List (Option ℕ)) → length sites ≡ length log
    → length (footprints_at log sites) ≡ length log
length_footprints_at [] sites same = refl
length_footprints_at (one ∷ log) [] same = absurd (omega arith)
length_footprints_at (one ∷ log) (site ∷ sites) same =
    let more = length_footprints_at log sites (omega arith) in omega arith

pub all_at : {A : Type 0} (P : A → Type 0) (xs : List A) (place : ℕ) (x : A) (rest : List A) → AllByRecursion P xs
    → drop place xs ≡ x ∷ rest → P x
all_at P [] zero x rest all is = absurd (none is)
  where
    none : [] ≡ x ∷ rest → ⊥
    none e = cc
all_at P [] (suc place) x rest all is = absurd (none is)
  where
    none : [] ≡ x ∷ rest → ⊥
    none e = cc
all_at P (y ∷ xs) zero x rest all is = subst P (same is) all.0
  where
    same : y ∷ xs ≡ x ∷ rest → y ≡ x
    same e = cc
all_at P (y ∷ xs) (suc place) x rest all is = all_at P xs place x rest all.1 is

-- the same, at a place of a log

pub record IsThere (log : List Kept) (sites : List (Option ℕ)) (agents nodes place : ℕ) (one : Kept) : Type 0 where
  pub within : IsInRange agents nodes (footprint_at one (slice_index_or sites place None))
  pub footprints : drop place (footprints_at log sites) ≡ footprint_at one (slice_index_or sites place None) ∷ drop
      (suc place) (footprints_at log sites)

pub there : (log : List Kept) (sites : List (Option ℕ)) (agents nodes place : ℕ) (one : Kept)
    → length sites ≡ length log → place < length log → one ≡ get_or log place one →
    AreInRange agents nodes (footprints_at log sites) → IsThere log sites agents nodes place one
there log sites agents nodes place one same within is range =
    let site = slice_index_or sites place None in
    let footprints = drop_footprints log sites place one site same within (sym is)
    (get_or_default sites place site None (omega arith)) in
    record { within = all_at _ (footprints_at log sites) place _ _ range footprints; footprints = footprints }

pub step_chosen : (log : List Kept) (sites : List (Option ℕ)) (needed after : Needed) (agent place next : ℕ)
    (places found : List ℕ) (one : Kept) →
    IsThere log sites (length needed.agents) (length needed.nodes) place one → next ≡ suc place →
    IsBack needed agent next (drop next (footprints_at log sites)) places →
    true ≡ is_needed needed (footprint_at one (slice_index_or sites place None)) →
    after ≡ needed_after needed (footprint_at one (slice_index_or sites place None)) → found ≡ places ++ place ∷ [] →
    IsBack after agent place (drop place (footprints_at log sites)) found
step_chosen log sites needed after agent place next places found one is_there is_next back is is_after is_found =
    rw (is_there.footprints, is_after, is_found)
    (back_chosen needed agent place _ places one.event _ is_there.within (sym is) (rw is_next at back))

pub step_omitted : (log : List Kept) (sites : List (Option ℕ)) (needed : Needed) (agent place next : ℕ)
    (places : List ℕ) (one : Kept) →
    IsThere log sites (length needed.agents) (length needed.nodes) place one → next ≡ suc place →
    IsBack needed agent next (drop next (footprints_at log sites)) places →
    false ≡ is_needed needed (footprint_at one (slice_index_or sites place None)) →
    IsBack needed agent place (drop place (footprints_at log sites)) places
step_omitted log sites needed agent place next places one is_there is_next back is =
    rw is_there.footprints (back_omitted needed agent place _ places one.event _ is_there.within (sym is)
    (rw is_next at back))

pub back_at_first : (log : List Kept) (sites : List (Option ℕ)) (needed : Needed) (agent place : ℕ) (places : List ℕ)
    → length sites ≡ length log → place ≡ length log → places ≡ [] → AreNeeded needed (Some agent) [] →
    IsBack needed agent place (drop place (footprints_at log sites)) places
back_at_first log sites needed agent place places same is_last is_none asked =
    let footprints = length_footprints_at log sites same in
    let none : drop place (footprints_at log sites) ≡ [] = drop_all place _ (omega arith) in
    rw (none, is_none) (record { are_needed = asked; found = refl })
