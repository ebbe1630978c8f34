-- Which logs with turns timed executions leave, event by event.
use Rattle.std.proofs.Common.{arith, ℕ, zero, suc, ◌≡◌, ◌<◌, ◌≤◌, ◌+◌, ◌-◌, Bool, true, false, Option, Some, None}
use Rattle.std.proofs.Common.{List, [], ◌∷◌, take, refl, sym, ap, ap₂, ◌∙◌, subst, inl, inr}
use Rattle.std.proofs.lemmas.Bool.{cond-true, cond-false, or_parts, not-false}
use Rattle.std.proofs.lemmas.Bool.Decides.{eqb_tells}
use Rattle.bhs_model.specs.declared.commands.Command.{Command}
use Rattle.bhs_model.specs.declared.events.Event.{Event}
use Rattle.bhs_model.specs.declared.events.Event.TheVariants.{Tell, Deliver, Close}
use Rattle.bhs_model.specs.Worlds.{World}
use Rattle.bhs_model.specs.Runs.{Position, State, arrives}
use Rattle.bhs_model.specs.Draws.{Held}
use Rattle.bhs_model.specs.Kept.{keeps, lost_after, nobody}
use Rattle.bhs_model.proofs.StepLemmas.{by_cases, next_closed}
use Rattle.bhs_model.proofs.KeptLemmas.{unkept_lost}
use Rattle.bhs_time.specs.Schedules.{Schedule}
use Rattle.bhs_time.specs.TimedRuns.{TimedState, timed_initial, TimedAct, Says, Passes, Ends, event_of, delivery_now}
use Rattle.bhs_time.specs.TimedRuns.{arrived_then, happened, happened_if, turn_after}
use Rattle.bhs_time.specs.Stamps.{Stamped, happened_at}
use Rattle.bhs_time.specs.TimedLogs.{lost_then, logged_first, timed_log_from, IsTimedLog, turn_behind}
use Rattle.bhs_time.specs.TimedLogs.{TimedLogsMayBeCut}

-- ---- the state that an event leaves unchanged

-- an event happens within a turn
pub arrived_turn : (world : World) (timed : TimedState) (agent : ℕ) (position : Position) →
    (arrived_then world timed agent position).turn ≡ timed.turn
arrived_turn world timed agent position = grind arith

pub happened_turn : (world : World) (timed : TimedState) (event : Event) →
    (happened world timed event).turn ≡ timed.turn
happened_turn world timed event = grind (arith, arrived_turn)

-- an event that is not kept changes nothing
unkept_timed : (world : World) (timed : TimedState) (lost : ℕ → Bool) (event : Event) →
    keeps world timed.state lost event ≡ false → happened world timed event ≡ timed
unkept_timed world timed lost (Tell agent command) unkept = cond-false _ _ _ unkept
unkept_timed world timed lost (Deliver agent) unkept =
    cond-false _ _ _ (or_parts (arrives world timed.state agent) _ unkept).0
unkept_timed world timed lost Close unkept =
    ap (λ (state : State). record timed { state = state }) (next_closed timed.state
    (not-false timed.state.closed unkept))

-- ---- the candidates for the next event of a log

-- whether an event exists and the match keeps it
abbrev pub is_kept : World → State → (lost : ℕ → Bool) → Option Event → Bool
is_kept world state lost None = false
is_kept world state lost (Some event) = keeps world state lost event

-- this event is kept, and a Deliver is the delivery of the next turn
abbrev pub IsNow : World → Held → Schedule → (lost : ℕ → Bool) → TimedState → Event → Type 0
IsNow world held schedule lost timed (Deliver agent) =
    (delivery_now held schedule timed ≡ Some (Deliver agent))
    × (keeps world timed.state lost (Deliver agent) ≡ true)
IsNow world held schedule lost timed event = keeps world timed.state lost event ≡ true

-- an event at its turn is the next of a log: no turn before it makes a delivery that is kept
pub record IsNext (world : World) (held : Held) (schedule : Schedule) (lost : ℕ → Bool) (timed : TimedState)
    (one : Stamped) : Type 0 where
  pub later : timed.turn ≤ one.turn
  pub quiet : (turn : ℕ) → timed.turn ≤ turn → turn < one.turn →
      is_kept world timed.state lost (delivery_now held schedule (record timed { turn = turn })) ≡ false
  pub now : IsNow world held schedule lost (record timed { turn = one.turn }) one.event

-- the timed state in which the next event may happen
abbrev pub behind : World → TimedState → Stamped → TimedState
behind world timed one = record (happened_at world timed one) { turn = turn_behind one.event one.turn }

-- each event of a log is the next
abbrev pub Follows : World → Held → Schedule → (lost : ℕ → Bool) → TimedState → List Stamped → Type 0
Follows world held schedule lost timed [] = Unit {0}
Follows world held schedule lost timed (one ∷ others) =
    IsNext world held schedule lost timed one
    × Follows world held schedule (lost_after world timed.state lost one.event) (behind world timed one) others

module _ (world : World) (held : Held) (schedule : Schedule) where
  abbrev LogFrom : (lost : ℕ → Bool) → TimedState → List TimedAct → List Stamped
  LogFrom lost timed acts = timed_log_from world held schedule lost timed acts

  -- ---- from events to acts

  -- what an event that is not kept leaves
  unkept_if : (timed : TimedState) (lost : ℕ → Bool) (event : Option Event) →
      is_kept world timed.state lost event ≡ false → happened_if world timed event ≡ timed
  unkept_if timed lost None unkept = refl
  unkept_if timed lost (Some event) unkept = unkept_timed world timed lost event unkept

  unlost_if : (timed : TimedState) (lost : ℕ → Bool) (event : Option Event) →
      is_kept world timed.state lost event ≡ false → lost_then world timed.state lost event ≡ lost
  unlost_if timed lost None unkept = refl
  unlost_if timed lost (Some event) unkept = unkept_lost world timed.state lost event unkept

  unlogged : (timed : TimedState) (lost : ℕ → Bool) (event : Option Event) (others : List Stamped) →
      is_kept world timed.state lost event ≡ false →
      logged_first world timed.state lost event timed.turn others ≡ others
  unlogged timed lost None others unkept = refl
  unlogged timed lost (Some event) others unkept = cond-false _ _ _ unkept

  -- an act that makes no event that is kept
  idle : (timed : TimedState) (lost : ℕ → Bool) (act : TimedAct) (acts : List TimedAct) →
      is_kept world timed.state lost (event_of held schedule timed act) ≡ false →
      LogFrom lost timed (act ∷ acts) ≡ LogFrom lost (record timed { turn = turn_after timed.turn act }) acts
  idle timed lost act acts unkept =
      unlogged timed lost (event_of held schedule timed act) _ unkept
      ∙ ap₂ (λ (known : ℕ → Bool) (there : TimedState).
      LogFrom known (record there { turn = turn_after there.turn act }) acts)
      (unlost_if timed lost (event_of held schedule timed act) unkept)
      (unkept_if timed lost (event_of held schedule timed act) unkept)

  -- this many turns, and then these acts
  abbrev passes : (count : ℕ) → List TimedAct → List TimedAct
  passes zero acts = acts
  passes (suc count) acts = Passes ∷ passes count acts

  all_idle : (count : ℕ) (timed : TimedState) (lost : ℕ → Bool) (acts : List TimedAct) (end : ℕ) →
      end ≡ timed.turn + count →
      ((turn : ℕ) → timed.turn ≤ turn → turn < end →
      is_kept world timed.state lost (delivery_now held schedule (record timed { turn = turn })) ≡ false) →
      LogFrom lost timed (passes count acts) ≡ LogFrom lost (record timed { turn = end }) acts
  all_idle zero timed lost acts end is quiet =
      let same : timed.turn ≡ end = omega (arith, is) in
      ap (λ (turn : ℕ). LogFrom lost (record timed { turn = turn }) acts) same
  all_idle (suc count) timed lost acts end is quiet =
      idle timed lost Passes (passes count acts) (quiet timed.turn (omega arith) (omega (arith, is)))
      ∙ all_idle count (record timed { turn = timed.turn + 1 }) lost acts end (omega (arith, is))
      (λ turn later before. quiet turn (omega (arith, later)) before)

  -- the act that makes an event
  abbrev act_of : Event → TimedAct
  act_of (Tell agent command) = Says agent command
  act_of (Deliver agent) = Passes
  act_of Close = Ends

  abbrev EventMade : TimedState → TimedAct → Event → Type 0
  EventMade timed act event = event_of held schedule timed act ≡ Some event

  -- an act that makes an event which is kept
  busy : (timed : TimedState) (lost : ℕ → Bool) (act : TimedAct) (acts : List TimedAct) (event : Event) →
      event_of held schedule timed act ≡ Some event → keeps world timed.state lost event ≡ true →
      LogFrom lost timed (act ∷ acts)
      ≡ record { event = event; turn = timed.turn } ∷ LogFrom (lost_after world timed.state lost event)
      (record (happened world timed event) { turn = turn_after timed.turn act }) acts
  busy timed lost act acts event made kept =
      ap (λ (some : Option Event). logged_first world timed.state lost some timed.turn
      (LogFrom (lost_then world timed.state lost some)
      (record (happened_if world timed some) { turn = turn_after (happened_if world timed some).turn act }) acts)) made
      ∙ cond-true _ _ _ kept
      ∙ ap (λ (turn : ℕ). record { event = event; turn = timed.turn } ∷
      LogFrom (lost_after world timed.state lost event)
      (record (happened world timed event) { turn = turn_after turn act }) acts) (happened_turn world timed event)

  now_made : (timed : TimedState) (lost : ℕ → Bool) (event : Event) → IsNow world held schedule lost timed event →
      (event_of held schedule timed (act_of event) ≡ Some event)
      × ((keeps world timed.state lost event ≡ true)
      × (turn_after timed.turn (act_of event) ≡ turn_behind event timed.turn))
  now_made timed lost (Tell agent command) now = (refl, (now, refl))
  now_made timed lost (Deliver agent) now = (now.0, (now.1, refl))
  now_made timed lost Close now = (refl, (now, refl))

  pub acts_for : (lost : ℕ → Bool) (timed : TimedState) (stamps : List Stamped) →
      Follows world held schedule lost timed stamps →
      (acts : List TimedAct) × (timed_log_from world held schedule lost timed acts ≡ stamps)
  acts_for lost timed [] follows = ([], refl)
  acts_for lost timed (one ∷ others) follows =
      let now : TimedState = record timed { turn = one.turn } in
      let made = now_made now lost one.event follows.0.now in
      let rest = acts_for (lost_after world timed.state lost one.event) (behind world timed one) others follows.1 in (
        passes (one.turn - timed.turn) (act_of one.event ∷ rest.0),
        all_idle (one.turn - timed.turn) timed lost (act_of one.event ∷ rest.0) one.turn
            (omega (arith, follows.0.later)) follows.0.quiet
            ∙ busy now lost (act_of one.event) rest.0 one.event made.0 made.1.0
            ∙ ap (λ (turn : ℕ). one ∷ LogFrom (lost_after world timed.state lost one.event)
            (record (happened_at world timed one) { turn = turn }) rest.0) made.1.1
            ∙ ap (λ (log : List Stamped). one ∷ log) rest.1,
      )

  -- ---- from acts to events

  -- a turn that delivers nobody may have passed before
  turn_before : (lost : ℕ → Bool) (timed : TimedState) (stamps : List Stamped) →
      is_kept world timed.state lost (delivery_now held schedule timed) ≡ false →
      Follows world held schedule lost (record timed { turn = timed.turn + 1 }) stamps →
      Follows world held schedule lost timed stamps
  turn_before lost timed [] none follows = tt
  turn_before lost timed (one ∷ others) none follows = (
    record {
      later = omega (arith, follows.0.later);
      quiet = λ turn later before. elim (eqb_tells turn timed.turn) [
        | inl h ↦ subst (λ (at : ℕ).
            is_kept world timed.state lost (delivery_now held schedule (record timed { turn = at })) ≡ false)
            (sym h.1) none
        | inr h ↦ follows.0.quiet turn (omega (arith, later, h.1)) before
      ];
      now = follows.0.now;
    },
    follows.1,
  )

  -- an act whose event is not kept
  idle_before : (lost : ℕ → Bool) (timed : TimedState) (act : TimedAct) (stamps : List Stamped) →
      is_kept world timed.state lost (event_of held schedule timed act) ≡ false →
      Follows world held schedule lost (record timed { turn = turn_after timed.turn act }) stamps →
      Follows world held schedule lost timed stamps
  idle_before lost timed (Says agent command) stamps none follows = follows
  idle_before lost timed Passes stamps none follows = turn_before lost timed stamps none follows
  idle_before lost timed Ends stamps none follows = follows

  -- an act whose event is kept
  abbrev Begins : (lost : ℕ → Bool) → TimedState → TimedAct → List Stamped → Type 0
  Begins lost timed act rest = (event : Event) → event_of held schedule timed act ≡ Some event →
      keeps world timed.state lost event ≡ true →
      Follows world held schedule (lost_after world timed.state lost event)
      (record (happened world timed event) { turn = turn_after timed.turn act }) rest →
      Follows world held schedule lost timed (record { event = event; turn = timed.turn } ∷ rest)

  begins_with : (lost : ℕ → Bool) (timed : TimedState) (event : Event) (rest : List Stamped) →
      IsNow world held schedule lost timed event →
      Follows world held schedule (lost_after world timed.state lost event)
      (record (happened world timed event) { turn = turn_behind event timed.turn }) rest →
      Follows world held schedule lost timed (record { event = event; turn = timed.turn } ∷ rest)
  begins_with lost timed event rest now follows = (
    record {
      later = omega arith;
      quiet = λ turn later before. absurd (omega (arith, later, before));
      now = now;
    },
    follows,
  )

  says_begin : (lost : ℕ → Bool) (timed : TimedState) (agent : ℕ) (command : Command) (rest : List Stamped) →
      Begins lost timed (Says agent command) rest
  says_begin lost timed agent command rest event made kept follows =
      let same : Tell agent command ≡ event = some_same made in
      subst (λ (some : Event). keeps world timed.state lost some ≡ true →
      Follows world held schedule (lost_after world timed.state lost some)
      (record (happened world timed some) { turn = timed.turn }) rest →
      Follows world held schedule lost timed (record { event = some; turn = timed.turn } ∷ rest)) same
      (λ is more. begins_with lost timed (Tell agent command) rest is more) kept follows
    where
      some_same : Some (Tell agent command) ≡ Some event → Tell agent command ≡ event
      some_same e = cc

  ends_begin : (lost : ℕ → Bool) (timed : TimedState) (rest : List Stamped) → Begins lost timed Ends rest
  ends_begin lost timed rest event made kept follows =
      let same : Close ≡ event = some_same made in
      subst (λ (some : Event). keeps world timed.state lost some ≡ true →
      Follows world held schedule (lost_after world timed.state lost some)
      (record (happened world timed some) { turn = timed.turn }) rest →
      Follows world held schedule lost timed (record { event = some; turn = timed.turn } ∷ rest)) same
      (λ is more. begins_with lost timed Close rest is more) kept follows
    where
      some_same : Some Close ≡ Some event → Close ≡ event
      some_same e = cc

  -- a turn makes no event but a Deliver
  delivers_only : (timed : TimedState) (event : Event) → delivery_now held schedule timed ≡ Some event →
      (agent : ℕ) × (Deliver agent ≡ event)
  delivers_only timed event made = grind arith

  passes_begin : (lost : ℕ → Bool) (timed : TimedState) (rest : List Stamped) → Begins lost timed Passes rest
  passes_begin lost timed rest event made kept follows =
      let own = delivers_only timed event made in
      subst (λ (some : Event). delivery_now held schedule timed ≡ Some some → keeps world timed.state lost some ≡ true →
      Follows world held schedule (lost_after world timed.state lost some)
      (record (happened world timed some) { turn = timed.turn + 1 }) rest →
      Follows world held schedule lost timed (record { event = some; turn = timed.turn } ∷ rest)) own.1
      (λ at is more. begins_with lost timed (Deliver own.0) rest (at, is) more) made kept follows

  act_begins : (lost : ℕ → Bool) (timed : TimedState) (act : TimedAct) (rest : List Stamped) →
      Begins lost timed act rest
  act_begins lost timed (Says agent command) rest = says_begin lost timed agent command rest
  act_begins lost timed Passes rest = passes_begin lost timed rest
  act_begins lost timed Ends rest = ends_begin lost timed rest

  -- the induction hypothesis for the remaining acts
  abbrev Rest : List TimedAct → Type 0
  Rest acts = (lost : ℕ → Bool) (timed : TimedState) → Follows world held schedule lost timed (LogFrom lost timed acts)

  pub follows_acts : (lost : ℕ → Bool) (timed : TimedState) (acts : List TimedAct) →
      Follows world held schedule lost timed (timed_log_from world held schedule lost timed acts)
  follows_acts lost timed [] = tt
  follows_acts lost timed (act ∷ acts) =
      go (event_of held schedule timed act) refl
      (λ known there. follows_acts known there acts)
    where
      unkept : Rest acts → is_kept world timed.state lost (event_of held schedule timed act) ≡ false →
          Follows world held schedule lost timed (LogFrom lost timed (act ∷ acts))
      unkept rest none =
          subst (λ (stamps : List Stamped). Follows world held schedule lost timed stamps)
          (sym (idle timed lost act acts none))
          (idle_before lost timed act _ none (rest lost (record timed { turn = turn_after timed.turn act })))

      go : (event : Option Event) → event_of held schedule timed act ≡ event → Rest acts →
          Follows world held schedule lost timed (LogFrom lost timed (act ∷ acts))
      go None made rest = unkept rest (ap (λ (some : Option Event). is_kept world timed.state lost some) made)
      go (Some event) made rest =
          by_cases (keeps world timed.state lost event) _
          (λ (kept : keeps world timed.state lost event ≡ true).
          subst (λ (stamps : List Stamped). Follows world held schedule lost timed stamps)
          (sym (busy timed lost act acts event made kept))
          (act_begins lost timed act _ event made kept
          (rest (lost_after world timed.state lost event)
          (record (happened world timed event) { turn = turn_after timed.turn act }))))
          (λ (none : keeps world timed.state lost event ≡ false).
          unkept rest (ap (λ (some : Option Event). is_kept world timed.state lost some) made ∙ none))

  -- a front of a log follows as well
  follows_cut : (count : ℕ) (lost : ℕ → Bool) (timed : TimedState) (stamps : List Stamped) →
      Follows world held schedule lost timed stamps → Follows world held schedule lost timed (take count stamps)
  follows_cut zero lost timed stamps follows = tt
  follows_cut (suc count) lost timed [] follows = tt
  follows_cut (suc count) lost timed (one ∷ others) follows =
      (follows.0, follows_cut count _ _ others follows.1)

-- ---- whole logs

abbrev pub FollowsWhole : World → Held → Schedule → List Stamped → Type 0
FollowsWhole world held schedule stamps = Follows world held schedule nobody timed_initial stamps

pub timed_by_steps : (world : World) (held : Held) (schedule : Schedule) (stamps : List Stamped) →
    FollowsWhole world held schedule stamps → IsTimedLog world held schedule stamps
timed_by_steps world held schedule stamps follows =
    let made = acts_for world held schedule nobody timed_initial stamps follows in
    record { acts = made.0; leave = made.1 }

pub steps_of_timed : (world : World) (held : Held) (schedule : Schedule) (stamps : List Stamped) →
    IsTimedLog world held schedule stamps → FollowsWhole world held schedule stamps
steps_of_timed world held schedule stamps is =
    subst (λ (log : List Stamped). FollowsWhole world held schedule log) is.leave
    (follows_acts world held schedule nobody timed_initial is.acts)

pub may_be_cut_lemma : TimedLogsMayBeCut
may_be_cut_lemma world held schedule stamps count is =
    timed_by_steps world held schedule (take count stamps)
    (follows_cut world held schedule count nobody timed_initial stamps (steps_of_timed world held schedule stamps is))
