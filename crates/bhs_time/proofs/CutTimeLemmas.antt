-- What is said outside the cut of an agent changes no turn of its past.
use Rattle.std.proofs.Common.{ℕ, ◌≡◌, Bool, true, false, ◌||◌, ◌==◌, Option, Some, None, List, [], ◌∷◌, refl, sym}
use Rattle.std.proofs.Common.{ap, ◌∙◌, if◌then◌else◌, inl, inr, subst}
use Rattle.std.specs.List.{list_any}
use Rattle.std.proofs.lemmas.Bool.{or_left, or_right, or_parts, eq-eqb, true≢false, false≢true}
use Rattle.std.proofs.lemmas.Bool.Decides.{eqb_tells}
use Rattle.bhs_model.specs.declared.events.Event.{Event}
use Rattle.bhs_model.specs.declared.events.Event.TheVariants.{Tell}
use Rattle.bhs_model.specs.Worlds.{World}
use Rattle.bhs_model.specs.Runs.{State, changed}
use Rattle.bhs_model.specs.Cuts.{at_places, Footprint, footprint, meet, needs, cut}
use Rattle.bhs_model.specs.Draws.{Held}
use Rattle.bhs_model.proofs.StepLemmas.{by_cases}
use Rattle.bhs_time.specs.Schedules.{Schedule}
use Rattle.bhs_time.specs.TimedRuns.{TimedState, timed_initial, TimedAct, Says, Passes, Ends, delivery_now, timed_next}
use Rattle.bhs_time.specs.Leaving.{Marked, all_of, TaintState, all_watched, taint, watch_after, IsClean, IsCleanIf}
use Rattle.bhs_time.specs.Leaving.{IsUnseen, watched, MeetsTheSame, seen_if, act_footprint, act_footprints}
use Rattle.bhs_time.specs.Leaving.{marked_by, within_cut, CutsSufficeInTime}
use Rattle.bhs_time.proofs.LeavingLemmas.{leaving_lemma}

-- whether a footprint is of an agent, or sees a node
abbrev is_by : (agent : ℕ) → Footprint → Bool
is_by agent one = meet one.who (Some agent)

abbrev sees : (node : ℕ) → Footprint → Bool
sees node one = meet one.seen (Some node)

-- none passes a test that passes less
any_less : (one two : Footprint → Bool) → ((late : Footprint) → one late ≡ true → two late ≡ true) →
    (lates : List Footprint) → list_any two lates ≡ false → list_any one lates ≡ false
any_less one two less [] none = refl
any_less one two less (late ∷ lates) none =
    let parts = or_parts (two late) (list_any two lates) none in
    by_cases (one late) _
    (λ (passes : one late ≡ true). absurd (true≢false (sym (less late passes) ∙ parts.0)))
    (λ (fails : one late ≡ false). ap (λ (first : Bool). first || list_any one lates) fails
    ∙ any_less one two less lates parts.1)

unasked_by : (early : Footprint) (agent : ℕ) → early.who ≡ Some agent → (lates : List Footprint) →
    list_any (needs early) lates ≡ false → list_any (is_by agent) lates ≡ false
unasked_by early agent own lates none =
    any_less (is_by agent) (needs early)
    (λ late passes. or_right early.closes _ (or_left _ _ (ap (λ (who : Option ℕ). meet late.who who) own ∙ passes)))
    lates none

unasked_seen : (early : Footprint) (node : ℕ) → early.written ≡ Some node → (lates : List Footprint) →
    list_any (needs early) lates ≡ false → list_any (sees node) lates ≡ false
unasked_seen early node own lates none =
    any_less (sees node) (needs early)
    (λ late passes. or_right early.closes _ (or_right (meet late.who early.who) _
    (ap (λ (written : Option ℕ). meet late.seen written) own ∙ passes)))
    lates none

-- Invariant of the cut: an unwatched agent has no further chosen events, and chosen events see no tainted whiteboard.
record IsClear (live tainted : ℕ → Bool) (chosen : List Footprint) : Type 0 where
  agents : (agent : ℕ) → live agent ≡ false → list_any (is_by agent) chosen ≡ false
  nodes : (node : ℕ) → tainted node ≡ true → list_any (sees node) chosen ≡ false

later_clear : (live tainted : ℕ → Bool) (first : Footprint) (lates : List Footprint) →
    IsClear live tainted (first ∷ lates) → IsClear live tainted lates
later_clear live tainted first lates clear = record {
  agents = λ agent gone. (or_parts (is_by agent first) _ (clear.agents agent gone)).1;
  nodes = λ node dirty. (or_parts (sees node first) _ (clear.nodes node dirty)).1;
}

-- The agent of a chosen event is watched, and the whiteboard that the event sees is untainted.
is_live : (live tainted : ℕ → Bool) (first : Footprint) (lates : List Footprint) (agent : ℕ) →
    first.who ≡ Some agent → IsClear live tainted (first ∷ lates) → live agent ≡ true
is_live live tainted first lates agent own clear =
    by_cases (live agent) _ (λ (lives : live agent ≡ true). lives)
    (λ (gone : live agent ≡ false).
    absurd (true≢false (sym (ap (λ (who : Option ℕ). meet who (Some agent)) own ∙ eq-eqb agent agent refl)
    ∙ (or_parts (is_by agent first) _ (clear.agents agent gone)).0)))

is_clean : (live tainted : ℕ → Bool) (first : Footprint) (lates : List Footprint) (seen : Option ℕ) →
    first.seen ≡ seen → IsClear live tainted (first ∷ lates) → IsClean tainted seen
is_clean live tainted first lates None own clear = tt
is_clean live tainted first lates (Some node) own clear =
    by_cases (tainted node) _
    (λ (dirty : tainted node ≡ true).
    absurd (true≢false (sym (ap (λ (seen : Option ℕ). meet seen (Some node)) own ∙ eq-eqb node node refl)
    ∙ (or_parts (sees node first) _ (clear.nodes node dirty)).0)))
    (λ (clean : tainted node ≡ false). clean)

clean_event : (world : World) (state : State) (tainted : ℕ → Bool) (event : Option Event) →
    IsClean tainted (seen_if world state event) → IsCleanIf world state tainted event
clean_event world state tainted None clean = clean
clean_event world state tainted (Some event) clean = clean

-- The invariant after an unchosen act.
gone_clear : (live : ℕ → Bool) (early : Footprint) (agent : ℕ) (lates : List Footprint) →
    early.who ≡ Some agent → list_any (needs early) lates ≡ false →
    ((other : ℕ) → live other ≡ false → list_any (is_by other) lates ≡ false) →
    (other : ℕ) → changed live agent false other ≡ false → list_any (is_by other) lates ≡ false
gone_clear live early agent lates own none before other gone = elim (eqb_tells other agent) [
  | inl h ↦ subst (λ (who : ℕ). list_any (is_by who) lates ≡ false) (sym h.1) (unasked_by early agent own lates none)
  | inr h ↦ before other (rw h.0 at gone)
]

dirty_clear : (tainted : ℕ → Bool) (early : Footprint) (written : Option ℕ) (lates : List Footprint) →
    early.written ≡ written → list_any (needs early) lates ≡ false →
    ((node : ℕ) → tainted node ≡ true → list_any (sees node) lates ≡ false) →
    (node : ℕ) → taint tainted written node ≡ true → list_any (sees node) lates ≡ false
dirty_clear tainted early None lates own none before node dirty = before node dirty
dirty_clear tainted early (Some place) lates own none before node dirty = elim (eqb_tells node place) [
  | inl h ↦ subst (λ (where_at : ℕ). list_any (sees where_at) lates ≡ false) (sym h.1)
      (unasked_seen early place own lates none)
  | inr h ↦ before node (rw h.0 at dirty)
]

still_own : (live : ℕ → Bool) (agent other : ℕ) → (agent == other) ≡ false → live agent ≡ true →
    changed live other false agent ≡ true
still_own live agent other apart lives = rw apart lives

module _ (world : World) (held : Held) (schedule : Schedule) (agent : ℕ) where
  -- what is shown of the acts that come
  abbrev IsFine : TimedState → TaintState → List Marked → Type 0
  IsFine timed watch acts =
      IsUnseen world held schedule timed watch acts
      × ((watched world held schedule timed watch acts).live agent ≡ true)

  one_place : (timed : TimedState) (watch : TaintState) (act : TimedAct) (chosen : Bool) (lates : List Footprint)
      (others : List Marked) →
      (chosen ≡ false → (meet (Some agent) (act_footprint world held schedule timed act).who ≡ false)
      × (list_any (needs (act_footprint world held schedule timed act)) lates ≡ false)) →
      IsClear watch.live watch.tainted
      (if chosen then act_footprint world held schedule timed act ∷ lates else lates) →
      watch.live agent ≡ true →
      ((watching : TaintState) → IsClear watching.live watching.tainted lates → watching.live agent ≡ true →
      IsFine (timed_next world held schedule timed act) watching others) →
      IsFine timed watch (record { act = act; kept = chosen } ∷ others)
  one_place timed watch (Says who command) true lates others unchosen clear lives rest =
      let first = footprint world timed.state (Tell who command) in
      let fine = rest watch (later_clear watch.live watch.tainted first lates clear) lives in (
        (
          (
            is_live watch.live watch.tainted first lates who refl clear,
            is_clean watch.live watch.tainted first lates first.seen refl clear,
          ),
          fine.0,
        ),
        fine.1,
      )
  one_place timed watch (Says who command) false lates others unchosen clear lives rest =
      let first = footprint world timed.state (Tell who command) in
      let fine = rest (watch_after world schedule timed watch (Says who command) false)
      (record {
        agents = gone_clear watch.live first who lates refl (unchosen refl).1 clear.agents;
        nodes = dirty_clear watch.tainted first first.written lates refl (unchosen refl).1 clear.nodes;
      }) (still_own watch.live agent who (unchosen refl).0 lives) in
      ((tt, fine.0), fine.1)
  one_place timed watch Passes true lates others unchosen clear lives rest =
      let first = act_footprint world held schedule timed Passes in
      let fine = rest watch (later_clear watch.live watch.tainted first lates clear) lives in (
        (
          λ picked. clean_event world timed.state watch.tainted (delivery_now held schedule timed)
              (is_clean watch.live watch.tainted first lates
              (seen_if world timed.state (delivery_now held schedule timed)) refl clear),
          fine.0,
        ),
        fine.1,
      )
  one_place timed watch Passes false lates others unchosen clear lives rest =
      let first = act_footprint world held schedule timed Passes in
      let fine = rest (watch_after world schedule timed watch Passes false)
      (record {
        agents = gone_clear watch.live first (schedule.picked timed.turn) lates refl (unchosen refl).1 clear.agents;
        nodes = clear.nodes;
      }) (still_own watch.live agent (schedule.picked timed.turn) (unchosen refl).0 lives) in
      ((tt, fine.0), fine.1)
  one_place timed watch Ends true lates others unchosen clear lives rest =
      let fine = rest watch
      (later_clear watch.live watch.tainted (act_footprint world held schedule timed Ends) lates clear) lives in
      ((tt, fine.0), fine.1)
  one_place timed watch Ends false lates others unchosen clear lives rest =
      let fine = rest watch clear lives in
      ((tt, fine.0), fine.1)

  cut_fine : (timed : TimedState) (watch : TaintState) (acts : List TimedAct) →
      IsClear watch.live watch.tainted (at_places (act_footprints world held schedule timed acts)
      (cut agent (act_footprints world held schedule timed acts))) →
      watch.live agent ≡ true →
      IsFine timed watch (marked_by acts (cut agent (act_footprints world held schedule timed acts)))
  cut_fine timed watch [] clear lives = (tt, lives)
  cut_fine timed watch (act ∷ acts) clear lives =
      let later = act_footprints world held schedule (timed_next world held schedule timed act) acts in
      one_place timed watch act _ (at_places later (cut agent later))
      (marked_by acts (cut agent later))
      (λ unchosen. or_parts (meet (Some agent) (act_footprint world held schedule timed act).who) _ unchosen)
      clear lives
      (λ watching is_clear_then lives_then. cut_fine
      (timed_next world held schedule timed act) watching acts is_clear_then
      lives_then)

all_marked : (acts : List TimedAct) (places : List Bool) → all_of (marked_by acts places) ≡ acts
all_marked [] places = refl
all_marked (act ∷ acts) [] = ap (λ (others : List TimedAct). act ∷ others) (all_marked acts [])
all_marked (act ∷ acts) (chosen ∷ places) = ap (λ (others : List TimedAct). act ∷ others) (all_marked acts places)

pub cuts_in_time_lemma : CutsSufficeInTime
cuts_in_time_lemma world held schedule acts agent =
    let places = cut agent (act_footprints world held schedule timed_initial acts) in
    let fine = cut_fine world held schedule agent timed_initial all_watched acts
    (record {
      agents = λ other gone. absurd (true≢false gone);
      nodes = λ node dirty. absurd
          (false≢true dirty);
    }) refl in
    subst (λ (whole : List TimedAct). MeetsTheSame world held schedule whole
    (within_cut world held schedule agent acts) agent)
    (all_marked acts places)
    (leaving_lemma world held schedule (marked_by acts places) agent fine.0 fine.1)
