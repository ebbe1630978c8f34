-- Agents that follow a strategy, step by step.
use Rattle.std.specs.Prelude.{◌≡◌}
use Rattle.bhs_schedules.specs.declared.answers.Step.{Step}
use Rattle.bhs_schedules.specs.Strategies.{Observation, Heard, Woke, History, Strategy}
use Rattle.bhs_agents.specs.declared.searchers.AgentNews.{AgentNews}
use Rattle.bhs_agents.specs.declared.searchers.AgentNews.TheVariants as news

-- what strategies know of it
abbrev pub observation_of : AgentNews → Observation
observation_of (news.Heard reply) = Heard reply
observation_of news.Woke = Woke

-- The agent keeps its strategy. Its new state has this history, and its next step is the strategy's. `strategy` and
-- `has_met` say what its strategy and its history are in a state.
pub record KeepsTo {S : Type 0} (strategy : S → Strategy) (has_met : S → History → Type 0) (old : S) (history : History)
    (step : Step) (new : S) : Type 0 where
  pub same : strategy new ≡ strategy old
  pub met : has_met new history
  pub is_next : step ≡ strategy old history
