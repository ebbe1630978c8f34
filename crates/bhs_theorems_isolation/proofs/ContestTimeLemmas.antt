-- Equal waits of agents whose matches settled, and every arrival in their pasts.
use Rattle.std.proofs.Common.{ℕ, ◌≡◌, List, [], ◌∷◌, Some, length, arith, refl, sym, ap, ◌∙◌, subst}
use Rattle.rand_chacha.specs.ChaCha.{ChaCha}
use Rattle.bhs_model.specs.declared.marks.Kept.{Kept}
use Rattle.bhs_model.specs.Marks.{events_of}
use Rattle.bhs_model.specs.Worlds.{World}
use Rattle.bhs_model.specs.Runs.{State, run_from}
use Rattle.bhs_time.specs.declared.kinds.ScheduleKind.{ScheduleKind}
use Rattle.bhs_time.specs.TimedViews.{bare}
use Rattle.bhs_time.specs.Schedules.{Schedule, DelayLaw}
use Rattle.bhs_time.specs.TimedRuns.{TimedState, timed_initial}
use Rattle.bhs_time.specs.Stamps.{Stamped, happened_at, stamped_run_from, AreInTime}
use Rattle.bhs_time.proofs.StampLemmas.{IsStamped, initial_stamped, happened_state, happened_stamped}
use Rattle.bhs_time.proofs.InTimeLogLemmas.{in_time_lemma}
use Rattle.bhs_time.proofs.LogTimeLemmas.{equal_waits_in_logs_lemma, every_arrival_lemma}
use Rattle.bhs_match.specs.Matches.{world_in, state_of}
use Rattle.bhs_deliveries.specs.Links.{held_in}
use Rattle.bhs_deliveries.specs.Scheduling.{stamps_in}
use Rattle.bhs_shared_match.specs.SharedMatches.{Given}
use Rattle.bhs_shared_match.specs.declared.settlement.Settlement.{Settlement}
use Rattle.bhs_server.specs.Settling.{IsTimely}
use Rattle.bhs_theorems_isolation.specs.ContestTime.{timed_view, schedule_of, HasEnded, EqualWaitsInContests}
use Rattle.bhs_theorems_isolation.specs.ContestTime.{EveryArrivalInContests}

stamped_from : (world : World) (timed : TimedState) (stamps : List Stamped) → IsStamped timed →
    IsStamped (stamped_run_from world timed stamps)
stamped_from world timed [] stamped = stamped
stamped_from world timed (one ∷ others) stamped =
    stamped_from world (happened_at world timed one) others
    (happened_stamped world (record timed { turn = one.turn }) one.event
    (record { pasts = stamped.pasts; writes = stamped.writes }))

-- The state after a log with turns equals the state after its events.
state_from : (world : World) (timed : TimedState) (log : List Kept) (turns : List ℕ) → length turns ≡ length log →
    (stamped_run_from world timed (stamps_in log turns)).state ≡ run_from world timed.state (events_of log)
state_from world timed [] turns long = refl
state_from world timed (one ∷ log) [] long = absurd (omega (arith, long))
state_from world timed (one ∷ log) (turn ∷ turns) long =
    state_from world (happened_at world timed (record { event = one.event; turn = turn })) log turns
    (omega (arith, long))
    ∙ ap (λ (state : State). run_from world state (events_of log))
    (happened_state world (record timed { turn = turn }) one.event)

-- without its turns a timed view is the past in the log
past_of : (one : Settlement) (agent : ℕ) → length one.turns.items ≡ length one.sealed.log →
    bare (timed_view one agent) ≡ (state_of one.sealed).past agent
past_of one agent count =
    (stamped_from (world_in one.sealed) timed_initial (stamps_in one.sealed.log one.turns.items) initial_stamped).pasts
    agent
    ∙ ap (λ (state : State). state.past agent)
    (state_from (world_in one.sealed) timed_initial one.sealed.log one.turns.items count)

in_time : (given : Given) (dealer : ChaCha) (law : DelayLaw) (one : Settlement) → HasEnded given dealer law one →
    AreInTime (schedule_of dealer law one) (world_in one.sealed) (stamps_in one.sealed.log one.turns.items)
in_time given dealer law one ended =
    in_time_lemma (world_in one.sealed) (held_in given.held) (schedule_of dealer law one)
    (stamps_in one.sealed.log one.turns.items)
    (subst (λ (kind : ScheduleKind). IsTimely kind (Some dealer) given.held one.sealed one.turns.items) ended.schedule
    ended.fared.1)

pub waits_in_contests_lemma : EqualWaitsInContests
waits_in_contests_lemma given other dealer another law one two ended also same agent before turn later sight seen
    arrived came =
    record {
      past = sym (past_of one agent ended.fared.0.count) ∙ ap bare arrived;
      other_past = sym (past_of two agent also.fared.0.count) ∙ ap bare came;
      turns = equal_waits_in_logs_lemma (schedule_of dealer law one) (world_in one.sealed) (world_in two.sealed)
          (stamps_in one.sealed.log one.turns.items) (stamps_in two.sealed.log two.turns.items) agent before turn later
          sight seen (in_time given dealer law one ended)
          (subst (λ (schedule : Schedule). AreInTime schedule (world_in two.sealed)
          (stamps_in two.sealed.log two.turns.items)) (sym same) (in_time other another law two also))
          arrived came;
    }

pub every_arrival_in_contests_lemma : EveryArrivalInContests
every_arrival_in_contests_lemma given other dealer another law one two ended also same agent before there turn later has
    had left =
    every_arrival_lemma (schedule_of dealer law one) (world_in one.sealed) (world_in two.sealed)
    (stamps_in one.sealed.log one.turns.items) (stamps_in two.sealed.log two.turns.items) agent before there turn later
    (in_time given dealer law one ended)
    (subst (λ (schedule : Schedule). AreInTime schedule (world_in two.sealed)
    (stamps_in two.sealed.log two.turns.items)) (sym same) (in_time other another law two also))
    has had left
