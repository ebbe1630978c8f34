-- The headline in time over contests: equal waits of agents whose matches settled.
use Rattle.std.specs.Prelude.{ℕ, ◌≡◌, Some, Ok}
use Rattle.rand_chacha.specs.ChaCha.{ChaCha}
use Rattle.bhs_time.specs.declared.kinds.ScheduleKind.TheVariants.{Oblivious}
use Rattle.bhs_time.specs.TimedViews.{TimedView, ArrivedAt, TimedSight, bare, departed_at}
use Rattle.bhs_time.specs.Schedules.{Schedule, DelayLaw}
use Rattle.bhs_time.specs.Stamps.{stamped_run, HasArrival}
use Rattle.bhs_match.specs.Matches.{world_in, state_of}
use Rattle.bhs_deliveries.specs.Scheduling.{whole_schedule, stamps_in}
use Rattle.bhs_shared_match.specs.SharedMatches.{Given}
use Rattle.bhs_shared_match.specs.declared.settlement.Settlement.{Settlement}
use Rattle.bhs_server.specs.Settling.{HasFared}

-- the timed view of an agent in a settled match: its past by the log, with the turn of each step
abbrev pub timed_view : Settlement → (agent : ℕ) → TimedView
timed_view one agent = (stamped_run (world_in one.sealed) (stamps_in one.sealed.log one.turns.items)).pasts agent

-- the schedule of a settled match, by its dealer and the law of delays
abbrev pub schedule_of : ChaCha → DelayLaw → Settlement → Schedule
schedule_of dealer law one = whole_schedule dealer one.sealed.setup.agents law

-- a match of a contest under the oblivious schedule that came to this settlement, as `run_server` says it
pub record HasEnded (given : Given) (dealer : ChaCha) (law : DelayLaw) (one : Settlement) : Type 0 where
  pub schedule : given.schedule ≡ Oblivious law
  pub fared : HasFared given (Some dealer) (Ok one)

-- what is known of two arrivals after equal timed views: the pasts in the two logs, and the turns
pub record WaitAlike (one two : Settlement) (agent : ℕ) (before : TimedView) (turn later : ℕ) (sight seen : TimedSight)
    : Type 0 where
  pub past : (state_of one.sealed).past agent ≡ bare (ArrivedAt before turn sight)
  pub other_past : (state_of two.sealed).past agent ≡ bare (ArrivedAt before later seen)
  pub turns : turn ≡ later

-- The headline theorem in time. Consider two settled matches of any two contests with equal schedules. They may differ
-- in networks, black holes, dark links, held links and all commands. If an agent with the same timed view arrives next
-- in both, then it arrives after equally many turns.
abbrev pub EqualWaitsInContests : Type 0
EqualWaitsInContests = (given other : Given) (dealer another : ChaCha) (law : DelayLaw) (one two : Settlement) →
    HasEnded given dealer law one → HasEnded other another law two →
    schedule_of dealer law one ≡ schedule_of another law two →
    (agent : ℕ) (before : TimedView) (turn later : ℕ) (sight seen : TimedSight) →
    timed_view one agent ≡ ArrivedAt before turn sight → timed_view two agent ≡ ArrivedAt before later seen →
    WaitAlike one two agent before turn later sight seen

-- The headline theorem in time, for every arrival. Consider two settled matches of any two contests with equal
-- schedules. They may differ in networks, black holes, dark links, held links and all commands. If an agent departs in
-- both matches after equally many turns and then arrives, then it arrives after equally many turns, whatever it met
-- before or afterwards.
abbrev pub EveryArrivalInContests : Type 0
EveryArrivalInContests = (given other : Given) (dealer another : ChaCha) (law : DelayLaw) (one two : Settlement) →
    HasEnded given dealer law one → HasEnded other another law two →
    schedule_of dealer law one ≡ schedule_of another law two →
    (agent : ℕ) (before there : TimedView) (turn later : ℕ) →
    HasArrival (timed_view one agent) before turn → HasArrival (timed_view two agent) there later →
    departed_at before ≡ departed_at there → turn ≡ later
