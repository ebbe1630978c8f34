-- What is kept of a match is kept too where a closed set of it is played by itself.
use Rattle.std.proofs.Common.{ℕ, ◌≡◌, Bool, true, false, not, ◌&&◌, ◌||◌, Some, List, [], ◌∷◌, ◌==◌, if◌then◌else◌}
use Rattle.std.proofs.Common.{nat_lt, refl, sym, ap, ap₂, ◌∙◌}
use Rattle.std.specs.List.{list_any}
use Rattle.std.proofs.lemmas.Bool.{cond-true, and_parts, or_parts, not-true, true≢false}
use Rattle.bhs_model.specs.declared.events.Event.{Event}
use Rattle.bhs_model.specs.declared.events.Event.TheVariants.{Tell, Deliver, Close}
use Rattle.bhs_model.specs.Views.{View}
use Rattle.bhs_model.specs.Replying.{hears}
use Rattle.bhs_model.specs.Worlds.{World}
use Rattle.bhs_model.specs.Runs.{Position, State, initial, changed, is_let_through, is_doomed, next}
use Rattle.bhs_model.specs.Kept.{destroys, keeps, kept, kept_from, lost_after, nobody}
use Rattle.bhs_model.specs.Cuts.{at_places, Footprint, footprint, footprints, footprints_from, meet, needs, is_closed}
use Rattle.bhs_model.proofs.StepLemmas.{changed_other}
use Rattle.bhs_model.proofs.CutLemmas.{Agree, AgreeOnAll, changed_alike, apart, all_after_chosen, all_after_left_out}
use Rattle.bhs_model.proofs.CutLemmas.{agree_at_first}
use Rattle.bhs_model.proofs.KeptLemmas.{first_kept}

-- An event's agent is lost in both matches, or in neither match.
abbrev pub LostAlike : (whole part : ℕ → Bool) → Footprint → Type 0
LostAlike whole part late = (agent : ℕ) → late.who ≡ Some agent → whole agent ≡ part agent

abbrev pub LostAlikeOnAll : (whole part : ℕ → Bool) → List Footprint → Type 0
LostAlikeOnAll whole part [] = Unit {0}
LostAlikeOnAll whole part (late ∷ footprints) = LostAlike whole part late × LostAlikeOnAll whole part footprints

destroys_agree : (world : World) (whole part : State) (agent : ℕ)
    → Agree whole part (footprint world whole (Deliver agent)) → destroys world whole agent ≡ destroys world part agent
destroys_agree world whole part agent own = ap₂
    (λ (closed : Bool) (position : Position). not closed && is_doomed world position) own.closed
    (own.position agent refl)

keeps_agree : (world : World) (whole part : State) (lost lose : ℕ → Bool) (event : Event)
    → Agree whole part (footprint world whole event) → LostAlike lost lose (footprint world whole event) →
    keeps world whole lost event ≡ keeps world part lose event
keeps_agree world whole part lost lose (Tell agent command) own alike =
    ap₂ (λ (closed : Bool) (view : View). nat_lt agent world.agents && (not closed && hears world.quota view command))
    own.closed (own.past agent refl)
keeps_agree world whole part lost lose (Deliver agent) own alike =
    ap₂ (λ (closed : Bool) (position : Position). (not closed && is_let_through world position) ||
    ((not closed && is_doomed world position) && not (lost agent))) own.closed (own.position agent refl)
    ∙ ap (λ (is_lost : Bool). (not part.closed && is_let_through world (part.position agent)) ||
    ((not part.closed && is_doomed world (part.position agent)) && not is_lost)) (alike agent refl)
keeps_agree world whole part lost lose Close own alike = ap not own.closed

lost_if : (one two : Bool) (lost lose : ℕ → Bool) (agent other : ℕ) → one ≡ two → lost other ≡ lose other
    → (if one then changed lost agent true else lost) other ≡ (if two then changed lose agent true else lose) other
lost_if true true lost lose agent other same alike = changed_alike lost lose agent other true true alike refl
lost_if false false lost lose agent other same alike = alike
lost_if true false lost lose agent other same alike = absurd (true≢false same)
lost_if false true lost lose agent other same alike = absurd (true≢false (sym same))

lost_agree : (world : World) (whole part : State) (lost lose : ℕ → Bool) (event : Event) (late : Footprint)
    → Agree whole part (footprint world whole event) → LostAlike lost lose late →
    LostAlike (lost_after world whole lost event) (lost_after world part lose event) late
lost_agree world whole part lost lose (Tell agent command) late own alike = alike
lost_agree world whole part lost lose (Deliver agent) late own alike =
    λ other is_who. lost_if _ _ lost lose agent other (destroys_agree world whole part agent own) (alike other is_who)
lost_agree world whole part lost lose Close late own alike = alike

lost_other : (b : Bool) (lost : ℕ → Bool) (agent other : ℕ) → (other == agent) ≡ false
    → (if b then changed lost agent true else lost) other ≡ lost other
lost_other true lost agent other is_other = changed_other lost agent other true is_other
lost_other false lost agent other is_other = refl

lost_untouched : (world : World) (state : State) (lost : ℕ → Bool) (event : Event) (late : Footprint)
    → needs (footprint world state event) late ≡ false → LostAlike (lost_after world state lost event) lost late
lost_untouched world state lost (Tell agent command) late unneeded = λ other is_who. refl
lost_untouched world state lost (Deliver agent) late unneeded = λ other is_who.
    lost_other (destroys world state agent) lost agent other
    (apart other agent late.who _ is_who refl (or_parts (meet late.who (Some agent)) _ unneeded).0)
lost_untouched world state lost Close late unneeded = λ other is_who. refl

lost_after_chosen : (world : World) (whole part : State) (lost lose : ℕ → Bool) (event : Event)
    (footprints : List Footprint) → Agree whole part (footprint world whole event)
    → LostAlikeOnAll lost lose footprints →
    LostAlikeOnAll (lost_after world whole lost event) (lost_after world part lose event) footprints
lost_after_chosen world whole part lost lose event [] own alike = tt
lost_after_chosen world whole part lost lose event (late ∷ footprints) own alike = (
  lost_agree world whole part lost lose event late own alike.0,
  lost_after_chosen world whole part lost lose event
      footprints own alike.1,
)

lost_after_left_out : (world : World) (state : State) (lost lose : ℕ → Bool) (event : Event)
    (footprints : List Footprint) → list_any (needs (footprint world state event)) footprints ≡ false
    → LostAlikeOnAll lost lose footprints →
    LostAlikeOnAll (lost_after world state lost event) lose footprints
lost_after_left_out world state lost lose event [] unneeded alike = tt
lost_after_left_out world state lost lose event (late ∷ footprints) unneeded alike =
    let parts = or_parts (needs (footprint world state event) late) _ unneeded in (
      λ other is_who. lost_untouched world state lost event late parts.0 other is_who ∙ alike.0 other is_who,
      lost_after_left_out world state lost lose event footprints parts.1 alike.1,
    )

kept_at_places : (world : World) (whole part : State) (lost lose : ℕ → Bool) (events : List Event)
    (places : List Bool) →
    kept_from world whole lost events ≡ events → is_closed (footprints_from world whole events) places ≡ true →
    AgreeOnAll whole part (at_places (footprints_from world whole events) places)
    → LostAlikeOnAll lost lose (at_places (footprints_from world whole events) places) →
    kept_from world part lose (at_places events places) ≡ at_places events places
kept_at_places world whole part lost lose [] places all closed agree alike = refl
kept_at_places world whole part lost lose (event ∷ events) [] all closed agree alike = refl
kept_at_places world whole part lost lose (event ∷ events) (true ∷ places) all closed agree alike =
    let first = first_kept world whole lost event events all in
    let footprints = at_places (footprints_from world (next world whole event) events) places in
    cond-true (keeps world part lose event) _ _
    (sym (keeps_agree world whole part lost lose event agree.0 alike.0) ∙ first.first)
    ∙ ap (λ (others : List Event). event ∷ others)
    (kept_at_places world (next world whole event) (next world part event) (lost_after world whole lost event)
    (lost_after world part lose event) events places first.others closed
    (all_after_chosen world whole part event footprints agree.0 agree.1)
    (lost_after_chosen world whole part lost lose event footprints agree.0 alike.1))
kept_at_places world whole part lost lose (event ∷ events) (false ∷ places) all closed agree alike =
    let first = first_kept world whole lost event events all in
    let footprints = at_places (footprints_from world (next world whole event) events) places in
    let parts = and_parts (not (list_any (needs (footprint world whole event)) footprints)) _ closed in
    kept_at_places world (next world whole event) part (lost_after world whole lost event) lose events places
    first.others parts.1
    (all_after_left_out world whole part event footprints (not-true _ parts.0) agree)
    (lost_after_left_out world whole lost lose event footprints (not-true _ parts.0) alike)

lost_at_first : (lost : ℕ → Bool) (footprints : List Footprint) → LostAlikeOnAll lost lost footprints
lost_at_first lost [] = tt
lost_at_first lost (late ∷ footprints) = (λ agent is_who. refl, lost_at_first lost footprints)

pub closed_sets_are_kept : (world : World) (events : List Event) (places : List Bool) → kept world events ≡ events
    → is_closed (footprints world events) places ≡ true →
    kept world (at_places events places) ≡ at_places events places
closed_sets_are_kept world events places all closed =
    let footprints = at_places (footprints_from world initial events) places in
    kept_at_places world initial initial nobody nobody events places all closed (agree_at_first initial footprints)
    (lost_at_first nobody footprints)
