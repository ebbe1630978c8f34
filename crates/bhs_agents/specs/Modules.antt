-- Agents that run a module, as searchers.
use Rattle.std.specs.Prelude.{◌≡◌, Some}
use Rattle.bhs_schedules.specs.Strategies.{History, Strategy}
use Rattle.bhs_wasm.specs.Contents.{contents_of}
use Rattle.bhs_wasm_team.specs.declared.agents.Agents.{Agents}
use Rattle.bhs_wasm_team.specs.Agents.{memory_after, strategy_of}
use Rattle.bhs_wasm_team.specs.Tables.{saved_at}
use Rattle.bhs_agents.specs.declared.module_agent.ModuleAgent.{ModuleAgent}

-- the same roles and fuel
abbrev pub RunsTheSame : (old new : Agents) → Type 0
RunsTheSame old new = (new.roles ≡ old.roles) × (new.fuel ≡ old.fuel)

-- the strategy of an agent
abbrev pub strategy_of_module : ModuleAgent → Strategy
strategy_of_module agent =
    strategy_of (contents_of agent.agents.roles.first.program) agent.agents.roles.first.arguments.items
    agent.agents.fuel

-- The stored memory is the module's memory after this history.
abbrev pub Remembers : ModuleAgent → History → Type 0
Remembers agent history = saved_at agent.agents.table.states.items agent.memory ≡ Some (record {
  role = 0;
  memory = memory_after (contents_of agent.agents.roles.first.program) agent.agents.roles.first.arguments.items
      agent.agents.fuel history;
})
