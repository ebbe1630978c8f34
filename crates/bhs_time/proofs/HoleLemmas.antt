-- What destroys shows in no turn.
use Rattle.std.proofs.Common.{ℕ, ◌≡◌, Bool, true, false, not, ◌&&◌, Option, Some, None, List, [], ◌∷◌, ◌++◌, refl, sym}
use Rattle.std.proofs.Common.{ap}
use Rattle.std.proofs.Common.{ap₂, ◌∙◌, if◌then◌else◌, option_to_list, subst}
use Rattle.std.proofs.lemmas.Bool.{true≢false}
use Rattle.bhs_model.specs.declared.events.Event.{Event}
use Rattle.bhs_model.specs.declared.events.Event.TheVariants.{Tell, Deliver, Close}
use Rattle.bhs_model.specs.Worlds.{World}
use Rattle.bhs_model.specs.Runs.{Position, Before, At, Bound, After, State, initial, is_bound, is_doomed}
use Rattle.bhs_model.specs.Twins.{reveals, RevealsNothing}
use Rattle.bhs_model.specs.Draws.{Held}
use Rattle.bhs_model.proofs.TwinLemmas.{with_destroyers, other_world}
use Rattle.bhs_time.specs.Schedules.{Schedule}
use Rattle.bhs_time.specs.TimedRuns.{TimedState, timed_initial, TimedAct, event_of, arrived_then, happened, happened_if}
use Rattle.bhs_time.specs.TimedRuns.{turn_after}
use Rattle.bhs_time.specs.TimedRuns.{timed_run_from, timed_events_from, timed_events}
use Rattle.bhs_time.specs.Laws.{HolesDoNotShowInTime}
use Rattle.bhs_time.proofs.StampLemmas.{happened_state}

-- Unless one agent arrives where the other is destroyed, their arrivals coincide.
same_arrival : (could here there : Bool) → (could && not here) && there ≡ false → (could && not there) && here ≡ false →
    (could && not here) ≡ (could && not there)
same_arrival false here there none none_too = refl
same_arrival true true true none none_too = refl
same_arrival true true false none none_too = absurd (true≢false none_too)
same_arrival true false true none none_too = absurd (true≢false none)
same_arrival true false false none none_too = refl

arrival_alike : (closed bound here there : Bool) → (not closed && (bound && not here)) && there ≡ false →
    (not closed && (bound && not there)) && here ≡ false →
    (not closed && (bound && not here)) ≡ (not closed && (bound && not there))
arrival_alike true bound here there none none_too = refl
arrival_alike false bound here there none none_too = same_arrival bound here there none none_too

pub come_alike : (world destroyers : World) (timed : TimedState) (agent : ℕ) (position : Position) →
    arrived_then world timed agent position ≡ arrived_then (with_destroyers world destroyers) timed agent position
come_alike world destroyers timed agent (Bound node port) = refl
come_alike world destroyers timed agent Before = refl
come_alike world destroyers timed agent (At node came) = refl
come_alike world destroyers timed agent After = refl

happened_alike : (world destroyers : World) (timed : TimedState) (event : Event) →
    reveals world (with_destroyers world destroyers) timed.state event ≡ false →
    reveals (with_destroyers world destroyers) world timed.state event ≡ false →
    happened world timed event ≡ happened (with_destroyers world destroyers) timed event
happened_alike world destroyers timed (Tell agent command) none none_too = refl
happened_alike world destroyers timed (Deliver agent) none none_too =
    ap₂ (λ (arrival : Bool) (there : TimedState). if arrival then there else timed)
    (arrival_alike timed.state.closed (is_bound (timed.state.position agent))
    (is_doomed world (timed.state.position agent))
    (is_doomed (with_destroyers world destroyers) (timed.state.position agent))
    none none_too)
    (come_alike world destroyers timed agent (timed.state.position agent))
happened_alike world destroyers timed Close none none_too = refl

module _ (world destroyers : World) (held : Held) (schedule : Schedule) where
  run_alike : (timed : TimedState) (acts : List TimedAct) →
      RevealsNothing world (with_destroyers world destroyers) timed.state
      (timed_events_from world held schedule timed acts) →
      RevealsNothing (with_destroyers world destroyers) world timed.state
      (timed_events_from (with_destroyers world destroyers) held schedule timed acts) →
      timed_run_from world held schedule timed acts
      ≡ timed_run_from (with_destroyers world destroyers) held schedule timed acts
  run_alike timed [] none none_too = refl
  run_alike timed (act ∷ acts) none none_too = one (event_of held schedule timed act)
      (λ later nothing nothing_too. run_alike later acts nothing nothing_too) none none_too
    where
      -- the timed state after the act that makes this event
      after : World → Option Event → TimedState
      after there event = record (happened_if there timed event) {
        turn = turn_after (happened_if there timed event).turn act;
      }

      one : (event : Option Event) → ((later : TimedState) →
          RevealsNothing world (with_destroyers world destroyers) later.state
          (timed_events_from world held schedule later acts) →
          RevealsNothing (with_destroyers world destroyers) world later.state
          (timed_events_from (with_destroyers world destroyers) held schedule later acts) →
          timed_run_from world held schedule later acts ≡ timed_run_from
          (with_destroyers world destroyers) held schedule later acts) →
          RevealsNothing world (with_destroyers world destroyers) timed.state
          (option_to_list event ++ timed_events_from world held schedule (after world event) acts) →
          RevealsNothing (with_destroyers world destroyers) world timed.state
          (option_to_list event ++ timed_events_from (with_destroyers world destroyers) held schedule (after
          (with_destroyers world destroyers) event) acts)
          → timed_run_from world held schedule (after world event) acts
          ≡ timed_run_from (with_destroyers world destroyers) held schedule
          (after (with_destroyers world destroyers) event) acts
      one None rest nothing nothing_too = rest (after world None) nothing nothing_too
      one (Some event) rest nothing nothing_too =
          let same : after world (Some event) ≡ after (with_destroyers world destroyers) (Some event) =
          ap (λ (there : TimedState). record there { turn = turn_after there.turn act })
          (happened_alike world destroyers timed event nothing.0 nothing_too.0) in
          rest (after world (Some event))
          (subst (λ (state : State). RevealsNothing world (with_destroyers world destroyers) state
          (timed_events_from world held schedule (after world (Some event)) acts)) (sym
          (happened_state world timed event)) nothing.1)
          (subst (λ (there : TimedState). RevealsNothing (with_destroyers world destroyers) world there.state
          (timed_events_from (with_destroyers world destroyers) held schedule there acts)) (sym same)
          (subst (λ (state : State). RevealsNothing (with_destroyers world destroyers) world state
          (timed_events_from (with_destroyers world destroyers) held schedule
          (after (with_destroyers world destroyers) (Some event)) acts))
          (sym (happened_state (with_destroyers world destroyers) timed event)) nothing_too.1))
          ∙ ap (λ (there : TimedState). timed_run_from (with_destroyers world destroyers) held schedule there acts) same

pub holes_lemma : HolesDoNotShowInTime
holes_lemma world other held schedule acts same nothing nothing_too =
    let is_other = other_world world other same in
    subst (λ (there : World). timed_run_from world held schedule timed_initial acts
    ≡ timed_run_from there held schedule timed_initial acts) is_other
    (run_alike world other held schedule timed_initial acts
    (subst (λ (there : World). RevealsNothing world there initial (timed_events world held schedule acts))
    (sym is_other) nothing)
    (subst (λ (there : World). RevealsNothing there world initial (timed_events there held schedule acts))
    (sym is_other)
    nothing_too))
