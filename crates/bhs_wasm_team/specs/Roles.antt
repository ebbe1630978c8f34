-- Teams whose agents run modules: the role of each agent, its memories and its strategy.
use Rattle.std.specs.Prelude.{ℕ, nat_le, List, ◌∷◌, length, slice_index_or, if◌then◌else◌}
use Rattle.bhs_schedules.specs.Strategies.{Observation, Strategies}
use Rattle.bhs_wasm.specs.Contents.{Contents, contents_of}
use Rattle.bhs_wasm_team.specs.declared.agents.Role.{Role}
use Rattle.bhs_wasm_team.specs.declared.agents.Roles.{Roles}
use Rattle.bhs_wasm_team.specs.declared.memory_table.Saved.{Saved}
use Rattle.bhs_wasm_team.specs.Agents.{AgentMemory, after, memory_of_saved, start, strategy_of}

-- the number of an agent's role: agent number i has role i, and if there is none of this number, the first
abbrev pub role_number : Roles → (agent : ℕ) → ℕ
role_number roles agent = if nat_le agent (length roles.others.items) then agent else 0

-- all roles, in their order
abbrev pub all_roles : Roles → List Role
all_roles roles = roles.first ∷ roles.others.items

-- the role of this number
abbrev pub role_at : Roles → (number : ℕ) → Role
role_at roles number = slice_index_or (all_roles roles) number roles.first

-- the module of the role of this number, without where it lies in memory
abbrev pub program_at : Roles → (number : ℕ) → Contents
program_at roles number = contents_of (role_at roles number).program

-- the role of an agent
abbrev pub role_of : Roles → (agent : ℕ) → Role
role_of roles agent = role_at roles (role_number roles agent)

-- ---- memories

-- the memory of an agent, with the number of its role
pub record RoleMemory : Type 0 where
  pub role : ℕ
  pub memory : AgentMemory

-- the memory that is saved, with the number of its role
abbrev pub role_memory_of : Saved → RoleMemory
role_memory_of saved = record { role = saved.role; memory = memory_of_saved saved }

-- the initial memory in the role with this number
abbrev pub start_in : Roles → (fuel role : ℕ) → RoleMemory
start_in roles fuel role = record {
  role = role;
  memory = start (program_at roles role) (role_at roles role).arguments.items fuel;
}

-- after something has happened: an agent stays in its role
abbrev pub after_in : Roles → (fuel : ℕ) → RoleMemory → Observation → RoleMemory
after_in roles fuel role_memory observation = record {
  role = role_memory.role;
  memory = after (program_at roles role_memory.role) fuel role_memory.memory observation;
}

-- ---- strategies

-- each agent has the strategy of its role's module, with the arguments of its role
abbrev pub strategies_in : Roles → (fuel : ℕ) → Strategies
strategies_in roles fuel agent =
    strategy_of (contents_of (role_of roles agent).program) (role_of roles agent).arguments.items fuel
