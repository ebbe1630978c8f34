-- Logs in which an agent does what its strategy says.
use Rattle.std.specs.Prelude.{ℕ, suc, zero, ◌≡◌, ◌+◌, ◌-◌, ◌≤◌, Bool, true, false, Option, Some, None, List, [], ◌∷◌}
use Rattle.std.specs.Prelude.{◌++◌, take, length, max}
use Rattle.bhs_model.specs.declared.commands.Command.{Command}
use Rattle.bhs_model.specs.declared.events.Event.{Event}
use Rattle.bhs_model.specs.declared.events.Event.TheVariants.{Tell, Deliver, Close}
use Rattle.bhs_model.specs.Worlds.{World}
use Rattle.bhs_model.specs.Runs.{State, Position, Before, At, is_bound, heard, reply, run}
use Rattle.bhs_model.specs.InOrder.{is_of}
use Rattle.bhs_model.specs.Marks.{events_of}
use Rattle.bhs_match.specs.Matches.{Play, world_in}
use Rattle.bhs_schedules.specs.declared.answers.Step.TheVariants.{Says, Sleeps}
use Rattle.bhs_schedules.specs.Strategies.{History, Observation, Strategy, Heard, Woke, hearing}
use Rattle.bhs_agents.specs.declared.searchers.AgentNews.{AgentNews}
use Rattle.bhs_agents.specs.Searchers.{observation_of}
use Rattle.bhs_agents.specs.WakeUps.{wake_ups_in}

-- an agent of a match, its strategy, and how often in a row it may wake although nothing has changed
pub record Player : Type 0 where
  pub agent : ℕ
  pub strategy : Strategy
  pub wakeups : ℕ

-- whether an agent at this position takes its turn by its strategy: before it enters, and at a node
abbrev pub is_listening : Position → Bool
is_listening Before = true
is_listening (At node came) = true
is_listening position = false

-- Turns of an agent that change nothing but its history: it wakes, at most `wakeups` + 1 times in a row, or a command
-- is refused. The match stands at this state, and the history before them is `old`.
pub data Idles (player : Player) (world : World) (state : State) (old : History) : History → Type 0 where
  starts : Idles player world state old old
  wakes : (history : History) → Idles player world state old history → player.strategy history ≡ Sleeps
      → (wake_ups_in history).in_a_row ≤ player.wakeups → Idles player world state old (Woke ∷ history)
  is_refused : (history : History) (command : Command) → Idles player world state old history
      → player.strategy history ≡ Says command → heard world state player.agent command ≡ false
      → Idles player world state old (hearing (reply world state (Tell player.agent command)) history)

-- The agent comes to say this command: in its turn its strategy says it, after turns that change nothing. Then it hears
-- the reply.
pub record ComesToSay (player : Player) (world : World) (state : State) (command : Command) (old new : History) : Type 0
  where
    pub history : History
    pub idles : Idles player world state old history
    pub listens : is_listening (state.position player.agent) ≡ true
    pub says : player.strategy history ≡ Says command
    pub hears : new ≡ hearing (reply world state (Tell player.agent command)) history

-- What an event of a match makes of the history of an agent that follows its strategy. A command of the agent is what
-- its strategy says; it hears the reply to a command and to an arrival; events of others leave its history as it is.
pub record GoesOn (player : Player) (world : World) (state : State) (event : Event) (old new : History) : Type 0 where
  pub goes_on : (event ≡ Close) → ⊥
  pub says : (command : Command) → event ≡ Tell player.agent command → ComesToSay player world state command old new
  pub arrives : event ≡ Deliver player.agent
      → (is_bound (state.position player.agent) ≡ true) × (new ≡ hearing (reply world state event) old)
  pub others : is_of player.agent event ≡ false → new ≡ old

-- The agent has followed its strategy through the first events of a log, as many as `place` says, and has this history.
abbrev pub FollowsTo : Player → World → List Event → (place : ℕ) → History → Type 0
FollowsTo player world events zero history = history ≡ []
FollowsTo player world events (suc place) history =
    (old : History) × (event : Event) × (take (suc place) events ≡ take place events ++ event ∷ [])
    × FollowsTo player world events place old × GoesOn player world (run world (take place events)) event old history

-- the history of an agent that then observes this, if anything
abbrev pub observed : Option AgentNews → History → History
observed None history = history
observed (Some news) history = observation_of news ∷ history

abbrev pub wake_ups_of : Observation → ℕ
wake_ups_of Woke = 1
wake_ups_of (Heard reply) = 0

-- how often an agent has woken
abbrev pub times_woken : History → ℕ
times_woken [] = 0
times_woken (item ∷ history) = times_woken history + wake_ups_of item

-- how often in a row it has woken at most
abbrev pub longest_row : History → ℕ
longest_row [] = 0
longest_row (item ∷ history) = max (longest_row history) (wake_ups_in (item ∷ history)).in_a_row

-- The agent has followed its strategy to the end of a match, before whose last event it has this history.
abbrev pub Follows : Player → Play → History → Type 0
Follows player play history =
    FollowsTo player (world_in play) (events_of play.log) (length play.log - 1) history
