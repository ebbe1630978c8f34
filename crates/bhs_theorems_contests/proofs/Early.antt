-- What stands in the log of a contest, whenever it is closed, is within the bounds of a schedule that goes on.
use Rattle.std.proofs.Common.{ℕ, ◌+◌, ◌≤◌, ◌≡◌, ◌∙◌, Bool, true, List, [], ◌∷◌, ◌++◌, count_by, refl, sym}
use Rattle.std.proofs.Common.{ap}
use Rattle.std.proofs.Common.{subst, arith, inl, inr, ◌==◌}
use Rattle.std.specs.List.{range_with_len}
use Rattle.std.proofs.lemmas.Bool.{cond_both}
use Rattle.bhs_model.specs.declared.events.Event.{Event}
use Rattle.bhs_model.specs.declared.events.Event.TheVariants.{Tell, Deliver, Close}
use Rattle.bhs_model.specs.Worlds.{World}
use Rattle.bhs_model.specs.Runs.{State, changed, reply, run}
use Rattle.bhs_model.specs.Kept.{lost, lost_after, destroys}
use Rattle.bhs_referee.specs.declared.verdicts.Verdict.{Verdict}
use Rattle.bhs_referee.specs.Findings.{Findings, findings, found_after, moves_by}
use Rattle.bhs_referee.specs.Rest.{verdict_after}
use Rattle.bhs_schedules.specs.Schedules.{Trial, Scene, Action, Makes, Wakes, Rests, deed, done, turn, turns, under}
use Rattle.bhs_schedules.specs.Schedules.{opening}
use Rattle.bhs_schedules.specs.Schedules.{verdict}
use Rattle.bhs_schedules.specs.Everywhere.{EveryScheduleSolves}
use Rattle.bhs_schedules.specs.Endings.{EveryScheduleCanRest}
use Rattle.bhs_schedules.proofs.Costs.{gone_of, moves_said}
use Rattle.bhs_schedules.proofs.Losses.{counted_within}
use Rattle.bhs_schedules.proofs.Turns.{turns_append}
use Rattle.bhs_schedules.proofs.Turns.{found_more, lost_more, verdict_is}
use Rattle.bhs_theorems_contests.specs.Contests.{IsWithin}
use Rattle.bhs_theorems_contests.proofs.Reached.{IsReached, lost_is, found_is}

-- ---- events more

-- the events have no fewer moves, and whoever was lost is
record IsFurther (world : World) (old new : List Event) : Type 0 where
  moves : (findings world old).moves ≤ (findings world new).moves
  lost : (agent : ℕ) → lost world old agent ≡ true → lost world new agent ≡ true

still_lost : (world : World) (state : State) (marks : ℕ → Bool) (event : Event) (agent : ℕ) → marks agent ≡ true
    → lost_after world state marks event agent ≡ true
still_lost world state marks (Tell other command) agent is = is
still_lost world state marks Close agent is = is
still_lost world state marks (Deliver other) agent is =
    cond_both (destroys world state other) (changed marks other true) marks
    (λ (after : ℕ → Bool). after agent ≡ true)
    (λ destroyed. cond_both (agent == other) true (marks agent) (λ (b : Bool). b ≡ true) (λ own. refl) (λ apart. is))
    (λ spared. is)

no_fewer_moves : (world : World) (state : State) (found : Findings) (event : Event)
    → found.moves ≤ (found_after world state found event).moves
no_fewer_moves world state found (Tell agent command) =
    let said : moves_by (reply world state (Tell agent command)) found.moves
    ≡ found.moves + gone_of (reply world state (Tell agent command)) =
    moves_said (reply world state (Tell agent command)) found.moves in
    omega (arith, said)
no_fewer_moves world state found (Deliver agent) = omega arith
no_fewer_moves world state found Close = omega arith

event_further : (world : World) (events : List Event) (event : Event) → IsFurther world events (events ++ event ∷ [])
event_further world events event = record {
  moves = subst (λ (found : Findings). (findings world events).moves ≤ found.moves)
      (sym (found_more world events event))
      (no_fewer_moves world (run world events) (findings world events) event);
  lost = λ agent is. ap (λ (marks : ℕ → Bool). marks agent) (lost_more world events event)
      ∙ still_lost world (run world events) (lost world events) event agent is;
}

-- ---- turns more

done_further : (trial : Trial) (scene : Scene) (agent : ℕ) (it : Action)
    → IsFurther trial.world scene.events (done trial scene agent it).events
done_further trial scene agent (Makes event) = event_further trial.world scene.events event
done_further trial scene agent Wakes = record { moves = omega arith; lost = λ other is. is }
done_further trial scene agent Rests = record { moves = omega arith; lost = λ other is. is }

turns_further : (trial : Trial) (scene : Scene) (schedule : List ℕ)
    → IsFurther trial.world scene.events (turns trial scene schedule).events
turns_further trial scene [] = record { moves = omega arith; lost = λ other is. is }
turns_further trial scene (agent ∷ schedule) =
    let first = done_further trial scene agent (deed trial scene agent) in
    let rest = turns_further trial (turn trial scene agent) schedule in
    let fewer : (findings trial.world scene.events).moves
    ≤ (findings trial.world (turn trial scene agent).events).moves = first.moves in
    let others : (findings trial.world (turn trial scene agent).events).moves
    ≤ (findings trial.world (turns trial scene (agent ∷ schedule)).events).moves = rest.moves in
    record { moves = omega (arith, fewer, others); lost = λ other is. rest.lost other (first.lost other is) }

-- ---- a log

pub within_early : (trial : Trial) (moves most_lost : ℕ) → EveryScheduleSolves trial moves most_lost
    → EveryScheduleCanRest trial → (whole : List Event) → IsReached trial whole
    → IsWithin moves most_lost (verdict_after trial.world whole)
within_early trial moves most_lost solves rests whole r =
    let world : World = trial.world in
    let scene : Scene = under trial r.schedule in
    let all : ℕ = world.agents in
    let found : findings world whole ≡ findings world scene.events = elim r.end [
      | inl is ↦ ap (findings world) is ∙ sym (found_is trial whole r)
      | inr is ↦ ap (findings world) is ∙ found_more world r.front Close ∙ sym (found_is trial whole r)
    ] in
    let marks : lost world whole ≡ lost world scene.events = elim r.end [
      | inl is ↦ ap (lost world) is ∙ sym (lost_is trial whole r)
      | inr is ↦ ap (lost world) is ∙ lost_more world r.front Close ∙ sym (lost_is trial whole r)
    ] in
    let more = rests r.schedule in
    let last : Scene = turns trial scene more.0 in
    let there : under trial (r.schedule ++ more.0) ≡ last = turns_append trial opening r.schedule more.0 in
    let further : IsFurther world scene.events last.events = turns_further trial scene more.0 in
    let solved = solves (r.schedule ++ more.0) more.1 in
    let judged = ap (verdict trial) there ∙ verdict_is trial last in
    let last_moves : (verdict trial (under trial (r.schedule ++ more.0))).moves ≡ (findings world last.events).moves =
    ap (λ (v : Verdict). v.moves) judged in
    let last_lost : (verdict trial (under trial (r.schedule ++ more.0))).lost
    ≡ count_by (lost world last.events) (range_with_len 0 all) = ap (λ (v : Verdict). v.lost) judged in
    let most_made : (verdict trial (under trial (r.schedule ++ more.0))).moves ≤ moves = solved.moves in
    let most_gone : (verdict trial (under trial (r.schedule ++ more.0))).lost ≤ most_lost = solved.lost in
    let made : (findings world whole).moves ≤ (findings world last.events).moves =
    subst (λ (f : Findings). f.moves ≤ (findings world last.events).moves) (sym found) further.moves in
    let gone : count_by (lost world whole) (range_with_len 0 all)
    ≤ count_by (lost world last.events) (range_with_len 0 all) =
    subst (λ (m : ℕ → Bool). count_by m (range_with_len 0 all)
    ≤ count_by (lost world last.events) (range_with_len 0 all)) (sym marks)
    (counted_within (lost world scene.events) (lost world last.events) further.lost (range_with_len 0 all)) in
    record {
      moves = omega (arith, made, last_moves, most_made);
      lost = omega (arith, gone, last_lost, most_gone);
    }
