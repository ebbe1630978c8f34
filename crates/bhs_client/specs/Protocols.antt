-- The protocols that a client can run, as strategies.
use Rattle.std.specs.Prelude.{◌≡◌, ℕ}
use Rattle.bhs_schedules.specs.declared.answers.Step.{Step}
use Rattle.bhs_schedules.specs.Strategies.{History, Observation, Strategies, Strategy}
use Rattle.bhs_protocols.specs.Halves.{halves}
use Rattle.bhs_protocols.specs.Programs.{held_after, strategies_by}
use Rattle.bhs_protocols.specs.Shuttle.{shuttle}
use Rattle.bhs_client.specs.declared.protocol_agent.Protocol.{Protocol}
use Rattle.bhs_client.specs.declared.protocol_agent.Protocol.TheVariants.{Halves, Shuttle}
use Rattle.bhs_client.specs.declared.protocol_agent.ProtocolAgent.{ProtocolAgent}
use Rattle.bhs_client.specs.declared.protocol_agent.ProtocolMemory.{ProtocolMemory}
use Rattle.bhs_client.specs.declared.protocol_agent.ProtocolMemory.TheVariants as held

-- the strategies of agents that run this protocol on a ring of n nodes
abbrev pub strategies_of : Protocol → (n : ℕ) → Strategies
strategies_of Halves n = strategies_by (halves n)
strategies_of Shuttle n = strategies_by (shuttle n)

-- what an agent of that protocol holds after this history, the newest first
abbrev pub held_by : Protocol → (n agent : ℕ) → History → ProtocolMemory
held_by Halves n agent history = held.Halves (held_after (halves n) agent history)
held_by Shuttle n agent history = held.Shuttle (held_after (shuttle n) agent history)

-- what it holds when something more has happened
abbrev pub after_in : (n : ℕ) → ProtocolMemory → Observation → ProtocolMemory
after_in n (held.Halves memory) item = held.Halves ((halves n).after memory item)
after_in n (held.Shuttle memory) item = held.Shuttle ((shuttle n).after memory item)

-- what it does
abbrev pub does_in : (n : ℕ) → ProtocolMemory → Step
does_in n (held.Halves memory) = (halves n).does memory
does_in n (held.Shuttle memory) = (shuttle n).does memory

-- the strategy of an agent
abbrev pub strategy_of_agent : ProtocolAgent → Strategy
strategy_of_agent agent = strategies_of agent.protocol agent.nodes agent.number

-- it holds what it holds after this history
abbrev pub Holds : ProtocolAgent → History → Type 0
Holds agent history = agent.memory ≡ held_by agent.protocol agent.nodes agent.number history
