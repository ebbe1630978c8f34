-- Logs with turns: what they say of a timed execution, and what it means that their Delivers were made in time.
use Rattle.std.proofs.Common.{ℕ, ◌≡◌, Option, Some, None, List, [], ◌∷◌, refl, sym, subst, inl, inr}
use Rattle.std.proofs.lemmas.Bool.{cond_both}
use Rattle.std.proofs.lemmas.Bool.Decides.{eqb_tells}
use Rattle.bhs_model.specs.declared.commands.Command.{Command}
use Rattle.bhs_model.specs.declared.events.Event.{Event}
use Rattle.bhs_model.specs.declared.events.Event.TheVariants.{Tell, Deliver, Close}
use Rattle.bhs_model.specs.Worlds.{World}
use Rattle.bhs_model.specs.Runs.{Position, Before, At, Bound, After, heard, arrives}
use Rattle.bhs_model.specs.Draws.{Held}
use Rattle.bhs_time.specs.TimedViews.{TimedView, Fresh, ToldAt, ArrivedAt, departed_at}
use Rattle.bhs_time.specs.Schedules.{Schedule}
use Rattle.bhs_time.specs.TimedRuns.{TimedState, TimedAct, timed_initial, event_of, told_then, arrived_then, happened}
use Rattle.bhs_time.specs.TimedRuns.{happened_if, timed_run_from, turn_after}
use Rattle.bhs_time.specs.Laws.{IsFirst, IsPunctual}
use Rattle.bhs_time.specs.Stamps.{Stamped, happened_at, stamped_run, stamped_run_from, IsInTime, AreInTimeFrom}
use Rattle.bhs_time.specs.Stamps.{stamped_first}
use Rattle.bhs_time.specs.Stamps.{stamps_from, TurnsSayWhatWasMet, DeliveriesInTimeArrivePunctually}
use Rattle.bhs_time.specs.Stamps.{EqualWaitsInLogs, EveryArrivalInLogs, HasArrival}
use Rattle.bhs_time.proofs.WaitLemmas.{first_once}

-- ---- the events of a timed execution with their turns

-- the turn that a log's state has shows nowhere, since each event brings its own
met_from : (world : World) (held : Held) (schedule : Schedule) (timed : TimedState) (acts : List TimedAct)
    (agent late : ℕ) →
    (stamped_run_from world (record timed { turn = late }) (stamps_from world held schedule timed acts)).pasts agent
    ≡ (timed_run_from world held schedule timed acts).pasts agent
met_from world held schedule timed [] agent late = refl
met_from world held schedule timed (act ∷ acts) agent late =
    go (event_of held schedule timed act) (λ there before. met_from world held schedule there acts agent before)
  where
    rest : TimedState → List Stamped
    rest there = stamps_from world held schedule (record there { turn = turn_after there.turn act }) acts

    go : (event : Option Event) → ((there : TimedState) (before : ℕ) →
        (stamped_run_from world (record there { turn = before }) (stamps_from world held schedule there acts)).pasts
        agent ≡ (timed_run_from world held schedule there acts).pasts agent) →
        (stamped_run_from world (record timed { turn = late }) (stamped_first event timed.turn
        (rest (happened_if world timed event)))).pasts agent
        ≡ (timed_run_from world held schedule
        (record (happened_if world timed event) { turn = turn_after (happened_if world timed event).turn act })
        acts).pasts agent
    go None again = again (record timed { turn = turn_after timed.turn act }) late
    go (Some event) again =
        again (record (happened world timed event) { turn = turn_after (happened world timed event).turn act })
        (happened world timed event).turn

pub met_lemma : TurnsSayWhatWasMet
met_lemma world held schedule acts agent = met_from world held schedule timed_initial acts agent 0

-- ---- Delivers that were made in time

module _ (schedule : Schedule) (world : World) where
  abbrev AllPunctual : TimedState → Type 0
  AllPunctual timed = (agent : ℕ) → IsPunctual schedule agent (timed.pasts agent)

  told_punctual : (timed : TimedState) (agent : ℕ) (command : Command) → AllPunctual timed →
      AllPunctual (told_then world timed agent command)
  told_punctual timed agent command all other = elim (eqb_tells other agent) [
    | inl h ↦ rw h.0 (subst (λ (who : ℕ). IsPunctual schedule other (timed.pasts who)) h.1 (all other))
    | inr h ↦ rw h.0 (all other)
  ]

  come_punctual : (timed : TimedState) (agent : ℕ) (position : Position) → AllPunctual timed →
      IsFirst schedule agent (departed_at (timed.pasts agent)) timed.turn →
      AllPunctual (arrived_then world timed agent position)
  come_punctual timed agent (Bound node port) all first other = elim (eqb_tells other agent) [
    | inl h ↦ rw h.0 (
      subst (λ (who : ℕ). IsFirst schedule who (departed_at (timed.pasts agent)) timed.turn)
          (sym h.1) first,
      subst (λ (who : ℕ). IsPunctual schedule other (timed.pasts who)) h.1 (all other),
    )
    | inr h ↦ rw h.0 (all other)
  ]
  come_punctual timed agent Before all first other = all other
  come_punctual timed agent (At node came) all first other = all other
  come_punctual timed agent After all first other = all other

  one_punctual : (timed : TimedState) (event : Event) (turn : ℕ) → AllPunctual timed →
      IsInTime schedule timed event turn → AllPunctual (happened world (record timed { turn = turn }) event)
  one_punctual timed (Tell agent command) turn all in_time =
      cond_both (heard world timed.state agent command)
      (told_then world (record timed { turn = turn }) agent command) (record timed { turn = turn })
      (λ (after : TimedState). AllPunctual after)
      (λ yes. told_punctual (record timed { turn = turn }) agent command all) (λ no. all)
  one_punctual timed (Deliver agent) turn all in_time =
      cond_both (arrives world timed.state agent)
      (arrived_then world (record timed { turn = turn }) agent (timed.state.position agent))
      (record timed { turn = turn })
      (λ (after : TimedState). AllPunctual after)
      (λ yes. come_punctual (record timed { turn = turn }) agent (timed.state.position agent) all in_time)
      (λ no. all)
  one_punctual timed Close turn all in_time = all

  all_punctual : (timed : TimedState) (stamps : List Stamped) → AllPunctual timed →
      AreInTimeFrom schedule world timed stamps → AllPunctual (stamped_run_from world timed stamps)
  all_punctual timed [] all in_time = all
  all_punctual timed (one ∷ others) all in_time =
      all_punctual (happened_at world timed one) others (one_punctual timed one.event one.turn all in_time.0) in_time.1

pub punctual_lemma : DeliveriesInTimeArrivePunctually
punctual_lemma schedule world stamps agent in_time =
    all_punctual schedule world timed_initial stamps (λ other. tt) in_time agent

pub equal_waits_in_logs_lemma : EqualWaitsInLogs
equal_waits_in_logs_lemma schedule world other stamps others agent before turn later sight seen in_time also arrived
    came =
    let one = subst (λ (past : TimedView). IsPunctual schedule agent past) arrived
    (punctual_lemma schedule world stamps agent in_time) in
    let two = subst (λ (past : TimedView). IsPunctual schedule agent past) came
    (punctual_lemma schedule other others agent also) in
    first_once schedule agent _ turn later one.0 two.0

at_arrival : (schedule : Schedule) (agent : ℕ) (past before : TimedView) (turn : ℕ) →
    IsPunctual schedule agent past → HasArrival past before turn → IsFirst schedule agent (departed_at before) turn
at_arrival schedule agent Fresh before turn punctual has = absurd has
at_arrival schedule agent (ToldAt past at command glance) before turn punctual has =
    at_arrival schedule agent past before turn punctual has
at_arrival schedule agent (ArrivedAt past at sight) before turn punctual (inl same) =
    subst (λ (old : TimedView). IsFirst schedule agent (departed_at old) turn) same.0
    (subst (λ (when : ℕ). IsFirst schedule agent (departed_at past) when) same.1 punctual.0)
at_arrival schedule agent (ArrivedAt past at sight) before turn punctual (inr has) =
    at_arrival schedule agent past before turn punctual.1 has

pub every_arrival_lemma : EveryArrivalInLogs
every_arrival_lemma schedule world other stamps others agent before there turn later in_time also one two same =
    let past = (stamped_run world stamps).pasts agent in
    let past' = (stamped_run other others).pasts agent in
    first_once schedule agent (departed_at before) turn later
    (at_arrival schedule agent past before turn (punctual_lemma schedule world stamps agent in_time) one)
    (subst (λ (from : ℕ). IsFirst schedule agent from later) (sym same)
    (at_arrival schedule agent past' there later (punctual_lemma schedule other others agent also) two))
