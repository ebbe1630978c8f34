-- A log that all agents of a match follow is a schedule.
use Rattle.std.specs.Prelude.{ℕ, ◌≡◌, ◌<◌, ◌≤◌, true, false, List, [], ◌∷◌, ◌++◌}
use Rattle.bhs_model.specs.declared.events.Event.{Event}
use Rattle.bhs_model.specs.declared.events.Event.TheVariants.{Deliver, Close}
use Rattle.bhs_model.specs.Worlds.{World}
use Rattle.bhs_model.specs.Runs.{State, initial, next}
use Rattle.bhs_model.specs.Draws.{Held, is_held}
use Rattle.bhs_model.specs.Kept.{kept}
use Rattle.bhs_model.specs.Marks.{events_of}
use Rattle.bhs_match.specs.Matches.{Play, world_in, state_of}
use Rattle.bhs_schedules.specs.Strategies.{History, Strategies}
use Rattle.bhs_schedules.specs.Schedules.{Trial, under}
use Rattle.bhs_attest.specs.Attested.{Player, Follows}

-- the event is no delivery over a held link
abbrev pub IsOverFree : Held → State → Event → Type 0
IsOverFree held state (Deliver agent) = is_held held (state.position agent) ≡ false
IsOverFree held state event = Unit {0}

-- none of these events is a delivery over a held link
abbrev pub AreOverFree : Held → World → State → List Event → Type 0
AreOverFree held world state [] = Unit {0}
AreOverFree held world state (event ∷ events) =
    IsOverFree held state event × AreOverFree held world (next world state event) events

-- A match that has ended: its log holds what a match keeps, and a Close. Each `Sealed` is one.
pub record HasEnded (play : Play) : Type 0 where
  pub some_agents : 1 ≤ play.setup.agents
  pub kept : kept (world_in play) (events_of play.log) ≡ events_of play.log
  pub closed : (state_of play).closed ≡ true

-- the match as a trial of these strategies
abbrev pub trial_in : Play → Held → (wakeups : ℕ) → Strategies → Trial
trial_in play held wakeups strategies =
    record { world = world_in play; held = held; wakeups = wakeups; strategies = strategies }

abbrev pub player_of : Strategies → (wakeups agent : ℕ) → Player
player_of strategies wakeups agent =
    record { agent = agent; strategy = strategies agent; wakeups = wakeups }

-- these events are what a match keeps of a schedule, and a Close
pub record IsSchedule (trial : Trial) (events : List Event) : Type 0 where
  pub schedule : List ℕ
  pub is : events ≡ kept trial.world (under trial schedule).events ++ Close ∷ []

-- If each agent of a match that has ended follows its strategy, and nobody arrives over a held link, then the log is a
-- schedule of these strategies.
abbrev pub FollowedLogsAreSchedules : Type 0
FollowedLogsAreSchedules = (play : Play) (held : Held) (wakeups : ℕ) (strategies : Strategies) → HasEnded play
    → AreOverFree held (world_in play) initial (events_of play.log)
    → ((agent : ℕ) → agent < play.setup.agents
    → (history : History) × Follows (player_of strategies wakeups agent) play history)
    → IsSchedule (trial_in play held wakeups strategies) (events_of play.log)
