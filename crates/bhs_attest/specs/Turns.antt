-- A turn of an agent that faces the next event of the log of its match.
use Rattle.std.specs.Prelude.{ℕ, ◌≡◌, ◌≢◌, ◌≤◌, Bool, true, false, ◌==◌, Option, Some, None, option_map}
use Rattle.bhs_model.specs.declared.commands.Command.{Command}
use Rattle.bhs_model.specs.declared.events.Event.{Event}
use Rattle.bhs_model.specs.declared.events.Event.TheVariants.{Tell, Deliver, Close}
use Rattle.bhs_model.specs.declared.marks.Mark.{Mark}
use Rattle.bhs_model.specs.Runs.{is_bound, heard, reply}
use Rattle.bhs_model.specs.InOrder.{is_of}
use Rattle.bhs_match.specs.Matches.{Play, world_in, state_of}
use Rattle.bhs_world.specs.Tables.{log_after}
use Rattle.bhs_schedules.specs.declared.answers.Step.{Step}
use Rattle.bhs_schedules.specs.declared.answers.Step.TheVariants.{Says, Sleeps}
use Rattle.bhs_schedules.specs.Strategies.{Heard, Woke}
use Rattle.bhs_agents.specs.declared.searchers.AgentNews.{AgentNews}
use Rattle.bhs_agents.specs.declared.wake_ups.WakeUps.{WakeUps}
use Rattle.bhs_agents.specs.Searchers.{observation_of}
use Rattle.bhs_attest.specs.declared.turns.Turn.{Turn}
use Rattle.bhs_attest.specs.declared.turns.Turn.TheVariants.{Idles, Passes, Differs}
use Rattle.bhs_attest.specs.Attested.{is_listening}

-- the event has happened in the match
pub record Happens (old : Play) (event : Event) (new : Play) : Type 0 where
  pub mark : Option Mark
  pub log : new.log ≡ log_after (world_in old) old.log event mark
  pub same : (new.net ≡ old.net) × (new.setup ≡ old.setup)

-- this is observed by whoever is answered after the event, if anybody is
abbrev pub IsHeard : Play → Event → Option AgentNews → Type 0
IsHeard old event news =
    option_map observation_of news ≡ option_map (λ answer. Heard answer) (reply (world_in old) (state_of old) event)

-- whether this agent gives the event's command
abbrev pub is_command_of : (agent : ℕ) → Event → Bool
is_command_of agent (Tell speaker command) = agent == speaker
is_command_of agent event = false

-- a turn in which the agent wakes, or in which the command that it says is refused
pub data IsIdle (agent : ℕ) (wake_ups : WakeUps) (old : Play) (step : Step) (news : AgentNews) : Type 0 where
  wakes : observation_of news ≡ Woke → step ≡ Sleeps → wake_ups.in_a_row ≤ wake_ups.limit
      → IsIdle agent wake_ups old step news
  is_refused : (command : Command) → step ≡ Says command
      → heard (world_in old) (state_of old) agent command ≡ false → IsHeard old (Tell agent command) (Some news)
      → IsIdle agent wake_ups old step news

-- the next event of the log is the agent's, which observes this before it
pub record Waits (agent : ℕ) (wake_ups : WakeUps) (old : Play) (event : Event) (step : Step) (news : AgentNews)
    (new : Play) : Type 0 where
  pub same : new ≡ old
  pub own : is_command_of agent event ≡ true
  pub idle : IsIdle agent wake_ups old step news

-- the next event has happened, and what the agent observes of it
pub record Goes (agent : ℕ) (old : Play) (event : Event) (step : Step) (news : Option AgentNews) (new : Play) : Type 0
  where
    pub happens : Happens old event new
    pub goes_on : (event ≡ Close) → ⊥
    pub says : (command : Command) → event ≡ Tell agent command
        → (is_listening ((state_of old).position agent) ≡ true) × (step ≡ Says command)
    pub arrives : event ≡ Deliver agent → is_bound ((state_of old).position agent) ≡ true
    pub own : is_of agent event ≡ true → IsHeard old event news
    pub others : is_of agent event ≡ false → news ≡ None

-- what comes of the turn of an agent that takes this step next
abbrev pub Takes : (agent : ℕ) → WakeUps → Play → Event → Step → Turn → Play → Type 0
Takes agent wake_ups old event step (Idles news) new = Waits agent wake_ups old event step news new
Takes agent wake_ups old event step (Passes news) new = Goes agent old event step news new
Takes agent wake_ups old event step Differs new = (command : Command) → event ≡ Tell agent command
    → is_listening ((state_of old).position agent) ≡ true → step ≢ Says command
