-- Agents that the program plays.
use Rattle.std.specs.Prelude.{◌≡◌, ℕ, List, Some}
use Rattle.bhs_schedules.specs.Strategies.{Strategy}
use Rattle.bhs_wasm.specs.Contents.{contents_of}
use Rattle.bhs_wasm_read.specs.Modules.{module_in}
use Rattle.bhs_wasm_team.specs.declared.agents.TheConstants.{FUEL}
use Rattle.bhs_client.specs.Charters.{strategy_of_charter}
use Rattle.bhs_agents.specs.Modules.{strategy_of_module}
use Rattle.bhs_client.specs.Protocols.{strategy_of_agent}
use Rattle.bhs_player.specs.declared.agents.PlayedAgent.{PlayedAgent}
use Rattle.bhs_player.specs.declared.agents.PlayedAgent.TheVariants as played
use Rattle.bhs_player.specs.declared.words.AgentChoice.{AgentChoice}
use Rattle.bhs_player.specs.declared.words.AgentChoice.TheVariants as runs

-- the agent runs this: the protocol on this ring from this side, the search by a chart of this network, or the module
-- that a file is, with these arguments
abbrev pub IsChosen : AgentChoice → PlayedAgent → Type 0
IsChosen (runs.Protocol protocol nodes side) (played.Protocol agent) =
    (agent.protocol ≡ protocol) × (agent.nodes ≡ nodes) × (agent.number ≡ side)
IsChosen (runs.Chart known) (played.Chart agent) = agent.known ≡ known
IsChosen (runs.Module it) (played.Module agent) =
    (agent.agents.roles.first.arguments.items ≡ it.arguments) × (agent.agents.fuel ≡ FUEL)
    × ((file : List ℕ) × (module_in file ≡ Some (contents_of agent.agents.roles.first.program)))
IsChosen choice agent = ⊥

-- the strategy of an agent
abbrev pub strategy_played : PlayedAgent → Strategy
strategy_played (played.Protocol agent) = strategy_of_agent agent
strategy_played (played.Chart agent) = strategy_of_charter agent
strategy_played (played.Module agent) = strategy_of_module agent
