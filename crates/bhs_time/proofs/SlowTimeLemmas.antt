-- A match with black holes, and the match whose links into them are held for good, come to the same timed state.
use Rattle.std.proofs.Common.{ℕ, ◌≡◌, ◌+◌, Bool, true, false, not, ◌&&◌, ◌||◌, Option, Some, None, List, [], ◌∷◌, refl}
use Rattle.std.proofs.Common.{sym}
use Rattle.std.proofs.Common.{ap, ap₂, ◌∙◌, if◌then◌else◌, subst}
use Rattle.std.proofs.lemmas.Bool.{cond-false, and_right}
use Rattle.bhs_model.specs.declared.events.Event.{Event}
use Rattle.bhs_model.specs.declared.events.Event.TheVariants.{Deliver}
use Rattle.bhs_model.specs.Worlds.{World}
use Rattle.bhs_model.specs.Runs.{arrives, is_bound, is_doomed}
use Rattle.bhs_model.specs.Draws.{Held, SlowInstead}
use Rattle.bhs_model.proofs.TwinLemmas.{with_destroyers, other_world, doomed_not_through}
use Rattle.bhs_model.proofs.SlowLemmas.{harmless_at, held_at}
use Rattle.bhs_time.specs.TimedViews.{departed_at}
use Rattle.bhs_time.specs.Schedules.{Schedule}
use Rattle.bhs_time.specs.TimedRuns.{TimedState, timed_initial, TimedAct, Says, Passes, Ends, delivery_if}
use Rattle.bhs_time.specs.TimedRuns.{happened, happened_if, timed_next, timed_run_from}
use Rattle.bhs_time.specs.Laws.{HolesLookSlowInTime}
use Rattle.bhs_time.proofs.HoleLemmas.{come_alike}

module _ (world : World) (held : Held) (destroyers : World) (still : Held) (schedule : Schedule)
    (instead : SlowInstead world held (with_destroyers world destroyers) still) where
  abbrev slow : World
  slow = with_destroyers world destroyers

  picked_alike : (timed : TimedState) (agent : ℕ) (is_kept is_lost is_still : Bool) → is_still ≡ (is_kept || is_lost) →
      is_doomed world (timed.state.position agent) ≡ is_lost →
      happened_if world timed (if is_kept then None else Some (Deliver agent))
      ≡ happened_if (with_destroyers world destroyers) timed (if is_still then None else Some (Deliver agent))
  picked_alike timed agent true is_lost is_still same lost =
      subst (λ (there : Bool). timed
      ≡ happened_if (with_destroyers world destroyers) timed (if there then None else Some (Deliver agent))) (sym same)
      refl
  picked_alike timed agent false true is_still same lost =
      subst (λ (there : Bool). happened world timed (Deliver agent)
      ≡ happened_if (with_destroyers world destroyers) timed (if there then None else Some (Deliver agent))) (sym same)
      (cond-false (arrives world timed.state agent) _ _
      (and_right (not timed.state.closed) _ (doomed_not_through world (timed.state.position agent) lost)))
  picked_alike timed agent false false is_still same lost =
      subst (λ (there : Bool). happened world timed (Deliver agent)
      ≡ happened_if (with_destroyers world destroyers) timed (if there then None else Some (Deliver agent))) (sym same)
      (ap₂ (λ (arrival : Bool) (there : TimedState). if arrival then there else timed)
      (ap (λ (destroyed : Bool). not timed.state.closed && (is_bound (timed.state.position agent) && not destroyed))
      (lost ∙ sym (harmless_at world held (with_destroyers world destroyers) still instead
      (timed.state.position agent))))
      (come_alike world destroyers timed agent (timed.state.position agent)))

  ready_alike : (timed : TimedState) (agent : ℕ) (is_ready : Bool) →
      happened_if world timed (delivery_if held timed.state agent is_ready)
      ≡ happened_if (with_destroyers world destroyers) timed (delivery_if still timed.state agent is_ready)
  ready_alike timed agent true = picked_alike timed agent _ _ _
      (held_at world held (with_destroyers world destroyers) still instead (timed.state.position agent)) refl
  ready_alike timed agent false = refl

  unless_closed : (timed : TimedState) (closed : Bool) (here there : Option Event) →
      happened_if world timed here ≡ happened_if (with_destroyers world destroyers) timed there →
      happened_if world timed (if closed then None else here)
      ≡ happened_if (with_destroyers world destroyers) timed (if closed then None else there)
  unless_closed timed true here there same = refl
  unless_closed timed false here there same = same

  next_alike : (timed : TimedState) (act : TimedAct) →
      timed_next world held schedule timed act ≡ timed_next (with_destroyers world destroyers) still schedule timed act
  next_alike timed (Says agent command) = refl
  next_alike timed Passes =
      ap (λ (there : TimedState). record there { turn = there.turn + 1 })
      (unless_closed timed timed.state.closed _ _ (ready_alike timed (schedule.picked timed.turn)
      (schedule.ready (schedule.picked timed.turn) (departed_at (timed.pasts
      (schedule.picked timed.turn))) timed.turn)))
  next_alike timed Ends = refl

  run_slow : (timed : TimedState) (acts : List TimedAct) →
      timed_run_from world held schedule timed acts
      ≡ timed_run_from (with_destroyers world destroyers) still schedule timed acts
  run_slow timed [] = refl
  run_slow timed (act ∷ acts) =
      run_slow (timed_next world held schedule timed act) acts
      ∙ ap (λ (there : TimedState). timed_run_from (with_destroyers world destroyers) still schedule there acts)
      (next_alike timed act)

pub slow_in_time_lemma : HolesLookSlowInTime
slow_in_time_lemma world held slow still schedule acts instead =
    let is_other = other_world world slow instead.worlds in
    subst (λ (there : World). timed_run_from world held schedule timed_initial acts
    ≡ timed_run_from there still schedule timed_initial acts) is_other
    (run_slow world held slow still schedule
    (subst (λ (there : World). SlowInstead world held there still) (sym is_other) instead) timed_initial acts)
