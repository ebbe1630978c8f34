-- Without its turns a timed execution is the match of its events.
use Rattle.std.proofs.Common.{ℕ, ◌≡◌, true, false, Option, Some, None, List, [], ◌∷◌, ◌++◌, refl, sym, ap, ap₂}
use Rattle.std.proofs.Common.{◌∙◌, option_to_list, inl, inr}
use Rattle.std.proofs.lemmas.Bool.{cond-true, cond-false, cond_both}
use Rattle.std.proofs.lemmas.Bool.Decides.{eqb_tells}
use Rattle.bhs_model.specs.declared.commands.Command.{Command}
use Rattle.bhs_model.specs.declared.commands.Command.TheVariants.{Enter, Look, Write}
use Rattle.bhs_model.specs.declared.events.Event.{Event}
use Rattle.bhs_model.specs.declared.events.Event.TheVariants.{Tell, Deliver, Close}
use Rattle.bhs_model.specs.Views.{View, Told, Arrived, Glance, Saw, Seen, LastWrite, WrittenBy}
use Rattle.bhs_model.specs.Worlds.{World}
use Rattle.bhs_model.specs.Runs.{Position, Before, At, Bound, After, State, changed, glance, last_writes_after, heard}
use Rattle.bhs_model.specs.Runs.{arrives, delivered, next, run_from}
use Rattle.bhs_model.specs.Draws.{Held}
use Rattle.bhs_model.proofs.StepLemmas.{by_cases, next_heard, next_unheard, next_arrived, next_no_arrival}
use Rattle.bhs_time.specs.TimedViews.{TimedView, TimedWrite, WrittenThen, bare, bare_glance, bare_write}
use Rattle.bhs_time.specs.Schedules.{Schedule}
use Rattle.bhs_time.specs.TimedRuns.{TimedState, timed_initial, TimedAct, event_of, glance_then, writes_then, told_then}
use Rattle.bhs_time.specs.TimedRuns.{arrived_then}
use Rattle.bhs_time.specs.TimedRuns.{happened, happened_if, timed_next, timed_run_from, timed_events_from}
use Rattle.bhs_time.specs.Laws.{ClocksOnlyStamp}

-- The state after an event agrees with the model.
arrived_state : (world : World) (timed : TimedState) (agent : ℕ) (position : Position) →
    (arrived_then world timed agent position).state ≡ delivered world timed.state agent position
arrived_state world timed agent (Bound node port) = refl
arrived_state world timed agent Before = refl
arrived_state world timed agent (At node came) = refl
arrived_state world timed agent After = refl

pub happened_state : (world : World) (timed : TimedState) (event : Event) →
    (happened world timed event).state ≡ next world timed.state event
happened_state world timed (Tell agent command) =
    by_cases (heard world timed.state agent command) _
    (λ (yes : heard world timed.state agent command ≡ true).
    ap (λ (after : TimedState). after.state) (cond-true _ _ _ yes) ∙ sym
    (next_heard world timed.state agent command yes))
    (λ (unheard : heard world timed.state agent command ≡ false).
    ap (λ (after : TimedState). after.state) (cond-false _ _ _ unheard)
    ∙ sym (next_unheard world timed.state agent command unheard))
happened_state world timed (Deliver agent) =
    by_cases (arrives world timed.state agent) _
    (λ (yes : arrives world timed.state agent ≡ true).
    ap (λ (after : TimedState). after.state) (cond-true _ _ _ yes)
    ∙ arrived_state world timed agent (timed.state.position agent) ∙ sym (next_arrived world timed.state agent yes))
    (λ (none : arrives world timed.state agent ≡ false).
    ap (λ (after : TimedState). after.state) (cond-false _ _ _ none) ∙ sym
    (next_no_arrival world timed.state agent none))
happened_state world timed Close = refl

pub run_state : (world : World) (held : Held) (schedule : Schedule) (timed : TimedState) (acts : List TimedAct) →
    (timed_run_from world held schedule timed acts).state ≡ run_from world timed.state
    (timed_events_from world held schedule timed acts)
run_state world held schedule timed [] = refl
run_state world held schedule timed (act ∷ acts) =
    run_state world held schedule (timed_next world held schedule timed act) acts
    ∙ after (event_of held schedule timed act) (timed_events_from world held schedule
    (timed_next world held schedule timed act) acts)
  where
    after : (event : Option Event) (rest : List Event) → run_from world (happened_if world timed event).state rest
        ≡ run_from world timed.state (option_to_list event ++ rest)
    after None rest = refl
    after (Some event) rest = ap (λ (state : State). run_from world state rest) (happened_state world timed event)

-- the pasts and the last writes without their turns are those of the model
pub record IsStamped (timed : TimedState) : Type 0 where
  pub pasts : (agent : ℕ) → bare (timed.pasts agent) ≡ timed.state.past agent
  pub writes : (node : ℕ) → bare_write (timed.writes node) ≡ timed.state.last_write node

changed_past : (pasts : ℕ → TimedView) (views : ℕ → View) (place : ℕ) (past : TimedView) (view : View) →
    ((agent : ℕ) → bare (pasts agent) ≡ views agent) → bare past ≡ view →
    (agent : ℕ) → bare (changed pasts place past agent) ≡ changed views place view agent
changed_past pasts views place past view all same agent = elim (eqb_tells agent place) [
  | inl h ↦ rw h.0 same
  | inr h ↦ rw h.0 (all agent)
]

changed_write : (writes : ℕ → TimedWrite) (plain : ℕ → LastWrite) (place : ℕ) (newest : TimedWrite)
    (last : LastWrite) → ((node : ℕ) → bare_write (writes node) ≡ plain node) → bare_write newest ≡ last →
    (node : ℕ) → bare_write (changed writes place newest node) ≡ changed plain place last node
changed_write writes plain place newest last all same node = elim (eqb_tells node place) [
  | inl h ↦ rw h.0 same
  | inr h ↦ rw h.0 (all node)
]

glance_bare : (world : World) (timed : TimedState) (position : Position) (command : Command) → IsStamped timed →
    bare_glance (glance_then world timed position command) ≡ glance world timed.state position command
glance_bare world timed position Enter stamped =
    ap (λ (last : LastWrite). Saw (Seen (world.net.degree world.home) None last)) (stamped.writes world.home)
glance_bare world timed (At node came) Look stamped =
    ap (λ (last : LastWrite). Saw (Seen (world.net.degree node) came last)) (stamped.writes node)
glance_bare world timed (At node came) (Write expect put) stamped =
    ap (λ (last : LastWrite). Saw (Seen (world.net.degree node) came last)) (stamped.writes node)
glance_bare world timed position command stamped = refl

writes_bare : (writes : ℕ → TimedWrite) (plain : ℕ → LastWrite) (position : Position) (command : Command)
    (past : TimedView) (view : View) → ((node : ℕ) → bare_write (writes node) ≡ plain node) → bare past ≡ view →
    (node : ℕ) → bare_write (writes_then writes position command past node)
    ≡ last_writes_after plain position command view node
writes_bare writes plain (At here came) (Write expect put) past view all same node =
    changed_write writes plain here (WrittenThen past) (WrittenBy view) all (ap WrittenBy same) node
writes_bare writes plain position command past view all same node = all node

told_stamped : (world : World) (timed : TimedState) (agent : ℕ) (command : Command) → IsStamped timed →
    IsStamped (told_then world timed agent command)
told_stamped world timed agent command stamped =
    let same : Told (bare (timed.pasts agent)) command
    (bare_glance (glance_then world timed (timed.state.position agent) command))
    ≡ Told (timed.state.past agent) command (glance world timed.state (timed.state.position agent) command) =
    ap₂ (λ (view : View) (seen : Glance). Told view command seen) (stamped.pasts agent)
    (glance_bare world timed (timed.state.position agent) command stamped) in
    record {
      pasts = changed_past timed.pasts timed.state.past agent _ _ stamped.pasts same;
      writes = writes_bare timed.writes timed.state.last_write
          (timed.state.position agent) command _ _ stamped.writes same;
    }

arrived_stamped : (world : World) (timed : TimedState) (agent : ℕ) (position : Position) → IsStamped timed →
    IsStamped (arrived_then world timed agent position)
arrived_stamped world timed agent (Bound node port) stamped =
    let far = world.net.far node port in
    record {
      pasts = changed_past timed.pasts timed.state.past agent _ _ stamped.pasts
          (ap₂ (λ (view : View) (last : LastWrite). Arrived view (Seen (world.net.degree far.0) (Some far.1) last))
          (stamped.pasts agent) (stamped.writes far.0));
      writes = stamped.writes;
    }
arrived_stamped world timed agent Before stamped = stamped
arrived_stamped world timed agent (At node came) stamped = stamped
arrived_stamped world timed agent After stamped = stamped

pub happened_stamped : (world : World) (timed : TimedState) (event : Event) → IsStamped timed →
    IsStamped (happened world timed event)
happened_stamped world timed (Tell agent command) stamped =
    cond_both (heard world timed.state agent command) (told_then world timed agent command) timed
    (λ (after : TimedState). IsStamped after) (λ yes. told_stamped world timed agent command stamped)
    (λ unheard. stamped)
happened_stamped world timed (Deliver agent) stamped =
    cond_both (arrives world timed.state agent) (arrived_then world timed agent (timed.state.position agent)) timed
    (λ (after : TimedState). IsStamped after)
    (λ yes. arrived_stamped world timed agent (timed.state.position agent) stamped) (λ none. stamped)
happened_stamped world timed Close stamped = record { pasts = stamped.pasts; writes = stamped.writes }

pub next_stamped : (world : World) (held : Held) (schedule : Schedule) (timed : TimedState) (act : TimedAct) →
    IsStamped timed →
    IsStamped (timed_next world held schedule timed act)
next_stamped world held schedule timed act stamped =
    let after = happened_one (event_of held schedule timed act) in
    record { pasts = after.pasts; writes = after.writes }
  where
    happened_one : (event : Option Event) → IsStamped (happened_if world timed event)
    happened_one None = stamped
    happened_one (Some event) = happened_stamped world timed event stamped

pub run_stamped : (world : World) (held : Held) (schedule : Schedule) (timed : TimedState) (acts : List TimedAct) →
    IsStamped timed →
    IsStamped (timed_run_from world held schedule timed acts)
run_stamped world held schedule timed [] stamped = stamped
run_stamped world held schedule timed (act ∷ acts) stamped =
    run_stamped world held schedule (timed_next world held schedule timed act) acts
    (next_stamped world held schedule timed act stamped)

pub initial_stamped : IsStamped timed_initial
initial_stamped = record { pasts = λ agent. refl; writes = λ node. refl }

pub clocks_only_stamp_lemma : ClocksOnlyStamp
clocks_only_stamp_lemma world held schedule acts =
    let stamped = run_stamped world held schedule timed_initial acts initial_stamped in
    record {
      state = run_state world held schedule timed_initial acts;
      pasts = stamped.pasts;
      writes = stamped.writes;
    }
