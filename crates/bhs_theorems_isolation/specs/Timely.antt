-- A sequence of calls on the state under a match's lock, and the timed execution that it amounts to.
use Rattle.std.specs.Prelude.{ℕ, ◌≡◌, ◌<◌, ◌^◌, ◌-◌, true, List, [], ◌∷◌, length}
use Rattle.bhs_model.specs.declared.commands.Command.{Command}
use Rattle.bhs_model.specs.declared.events.Event.TheVariants.{Close}
use Rattle.bhs_model.specs.Draws.{Held}
use Rattle.bhs_time.specs.declared.kinds.ScheduleKind.TheVariants.{Oblivious}
use Rattle.bhs_time.specs.TimedViews.{TimedView, ArrivedAt, TimedSight, bare, departed_at}
use Rattle.bhs_time.specs.Schedules.{Schedule, DelayLaw}
use Rattle.bhs_time.specs.TimedRuns.{TimedAct, Says, Passes, Ends, TimedState, timed_run}
use Rattle.bhs_match.specs.declared.answers.Answer.{Answer as MatchAnswer}
use Rattle.bhs_match.specs.Matches.{Play, world_in, state_of}
use Rattle.bhs_match.specs.Games.{IsPlayed}
use Rattle.bhs_deliveries.specs.declared.draws.Drawn.{Drawn}
use Rattle.bhs_deliveries.specs.Dealer.{dealer_at}
use Rattle.bhs_deliveries.specs.Delaying.{schedule_of, departed_in}
use Rattle.bhs_deliveries.specs.Drawing.{IsPlayedIf}
use Rattle.bhs_shared_match.specs.declared.model.Answer.{Answer}
use Rattle.bhs_shared_match.specs.Passes.{Passed}
use Rattle.bhs_shared_match.specs.Timing.{turned, stamped_to, arrived_by, event_of_turn, drawn_in_turn}
use Rattle.bhs_shared_match.specs.LockedMatches.{LockedState, empty_locked_match, agrees, IsHeardBy}

-- what is fixed of a match under the oblivious schedule: its words, the law of its delays, and its held links
pub record TurnTerms : Type 0 where
  pub seed : List ℕ
  pub stream : ℕ
  pub law : DelayLaw
  pub held : Held

-- the schedule of the match
abbrev pub schedule_in : TurnTerms → Play → Schedule
schedule_in terms play = schedule_of terms.seed terms.stream play.setup.agents terms.law

-- a call that tells a command of an agent, as `LockedMatch::submit` says it
pub record IsToldCall (inner : LockedState) (agent : ℕ) (command : Command) (inner' : LockedState) : Type 0 where
  pub pass : Passed
  pub pass' : Passed
  pub answer : Answer
  pub own : pass.agent ≡ agent
  pub agreed : agrees inner pass ≡ true
  pub heard : IsHeardBy inner pass command answer inner' pass'

-- a turn, as `LockedMatch::turn` says it, by the dealer that has given one word a turn
pub record IsTurnCall (terms : TurnTerms) (inner inner' : LockedState) : Type 0 where
  pub drawn : Drawn
  pub is_drawn : drawn ≡ drawn_in_turn (Oblivious terms.law) terms.held inner.play inner.times
      (dealer_at terms.seed terms.stream inner.times.turn)
  pub played : IsPlayedIf inner.play
      (event_of_turn (Oblivious terms.law) terms.held inner.play inner.times
      (dealer_at terms.seed terms.stream inner.times.turn)) inner'.play
  pub times : inner'.times ≡ turned (arrived_by (state_of inner'.play) drawn) inner.times
  pub turns : inner'.turns ≡ stamped_to (length inner'.play.log) inner.times.turn inner.turns

-- the end of the match, as `LockedMatch::close` says it
pub record IsCloseCall (inner inner' : LockedState) : Type 0 where
  pub answer : MatchAnswer
  pub played : IsPlayed inner.play Close answer inner'.play
  pub times : inner'.times ≡ inner.times
  pub turns : inner'.turns ≡ stamped_to (length inner'.play.log) inner.times.turn inner.turns

abbrev pub IsCall : TurnTerms → TimedAct → LockedState → LockedState → Type 0
IsCall terms (Says agent command) inner inner' = IsToldCall inner agent command inner'
IsCall terms Passes inner inner' = IsTurnCall terms inner inner'
IsCall terms Ends inner inner' = IsCloseCall inner inner'

-- a sequence of calls, each of which meets its contract
abbrev pub AreCalls : TurnTerms → List TimedAct → LockedState → LockedState → Type 0
AreCalls terms [] inner inner' = inner' ≡ inner
AreCalls terms (act ∷ acts) inner inner' =
    (between : LockedState) × (IsCall terms act inner between × AreCalls terms acts between inner')

-- what stands under the lock is a timed execution: its match, its turn, and of each agent the turn of its newest step
-- that was not on a link
pub record StandsAs (timed : TimedState) (inner : LockedState) : Type 0 where
  pub state : state_of inner.play ≡ timed.state
  pub turn : inner.times.turn ≡ timed.turn
  pub departed : (agent : ℕ) → agent < inner.play.setup.agents →
      departed_in inner.times.departed agent ≡ departed_at (timed.pasts agent)

-- Whatever calls are made of a match that begins, each of which does what its contract says: the match is the timed
-- execution of their acts under the oblivious schedule of its words. So the laws of time hold for it.
abbrev pub HallsAreTimedExecutions : Type 0
HallsAreTimedExecutions = (terms : TurnTerms) (game : ℕ) (play : Play) (acts : List TimedAct) (inner : LockedState) →
    play.log ≡ [] → 0 < play.setup.agents → length acts < 2 ^ 32 - 1 →
    AreCalls terms acts (empty_locked_match game play) inner →
    StandsAs (timed_run (world_in play) terms.held (schedule_in terms play) acts) inner

-- what is known of two arrivals after equal timed views: the pasts under the two locks, and the turns
pub record ArriveAlike (inner there : LockedState) (agent : ℕ) (before : TimedView) (turn later : ℕ)
    (sight seen : TimedSight) : Type 0 where
  pub past : (state_of inner.play).past agent ≡ bare (ArrivedAt before turn sight)
  pub other_past : (state_of there.play).past agent ≡ bare (ArrivedAt before later seen)
  pub turns : turn ≡ later

-- The headline in time. Take two matches under their locks with one schedule, of one contest or of two, which may
-- differ in their networks, in what destroys, in held links and in all that is said. If an agent with the same timed
-- view before has arrived next in both, then it arrived after equally many turns.
abbrev pub EqualWaitsUnderLocks : Type 0
EqualWaitsUnderLocks = (terms others : TurnTerms) (game number : ℕ) (play twin : Play) (acts sequel : List TimedAct)
    (inner there : LockedState) →
    play.log ≡ [] → 0 < play.setup.agents → length acts < 2 ^ 32 - 1
    → AreCalls terms acts (empty_locked_match game play) inner →
    twin.log ≡ [] → 0 < twin.setup.agents → length sequel < 2 ^ 32 - 1 →
    AreCalls others sequel (empty_locked_match number twin) there →
    schedule_in terms play ≡ schedule_in others twin →
    (agent : ℕ) (before : TimedView) (turn later : ℕ) (sight seen : TimedSight) →
    (timed_run (world_in play) terms.held (schedule_in terms play) acts).pasts agent ≡ ArrivedAt before turn sight →
    (timed_run (world_in twin) others.held (schedule_in others twin) sequel).pasts agent ≡ ArrivedAt before later seen →
    ArriveAlike inner there agent before turn later sight seen
