-- Agents that search by a chart, as the strategies that the theorem on them speaks of.
use Rattle.std.specs.Prelude.{◌≡◌}
use Rattle.bhs_schedules.specs.Strategies.{History, Strategy}
use Rattle.bhs_protocols.specs.Programs.{Program, held_after, strategies_by}
use Rattle.bhs_protocols_charts.specs.Charting.{Memory, charters}
use Rattle.bhs_protocols_charts.specs.Programs.{charting_of, tells_of}
use Rattle.bhs_protocols_charts.specs.declared.charts.ChartFault.{ChartFault}
use Rattle.bhs_protocols_charts.specs.declared.charts.ChartFault.TheVariants as chart_faults
use Rattle.bhs_agents.specs.declared.searchers.SearcherFault.{SearcherFault}
use Rattle.bhs_agents.specs.declared.searchers.SearcherFault.TheVariants as searcher_faults
use Rattle.bhs_client.specs.declared.chart_agent.ChartAgent.{ChartAgent}

abbrev pub program_of : ChartAgent → Program Memory
program_of agent = charters agent.known.nodes (tells_of agent.known.told)

-- the strategy of an agent: all agents have the strategy of agent 0
abbrev pub strategy_of_charter : ChartAgent → Strategy
strategy_of_charter agent = strategies_by (program_of agent) 0

-- the fault of an agent whose chart cannot be written
abbrev pub searcher_fault : ChartFault → SearcherFault
searcher_fault chart_faults.TooLarge = searcher_faults.Size
searcher_fault chart_faults.Memory = searcher_faults.Memory

-- it holds what it holds after this history
abbrev pub HoldsChart : ChartAgent → History → Type 0
HoldsChart agent history = record { duty = charting_of agent.memory; has_departed = agent.has_departed }
    ≡ held_after (program_of agent) 0 history
