-- An agent of a module follows the module's strategy, as its team tells.
use Rattle.std.proofs.Common.{◌≡◌, ◌∙◌, ℕ, Bool, true, false, ◌∷◌, [], length, Some, IsSomeAnd, Result, Ok, Err}
use Rattle.std.proofs.Common.{IfOk, OnOk, refl, sym, ap, subst}
use Rattle.std.specs.Prelude.{if◌then◌else◌, nat_le}
use Rattle.bhs_schedules.specs.declared.answers.Step.{Step}
use Rattle.bhs_schedules.specs.Strategies.{History, Observation, Strategy}
use Rattle.bhs_wasm.specs.Contents.{contents_of}
use Rattle.bhs_wasm_team.specs.declared.agents.Agents.{Agents}
use Rattle.bhs_wasm_team.specs.declared.agents.Roles.{Roles}
use Rattle.bhs_wasm_team.specs.Agents.{memory_after, strategy_of}
use Rattle.bhs_wasm_team.specs.Answering.{Tells}
use Rattle.bhs_wasm_team.specs.Roles.{RoleMemory, after_in, role_number, start_in}
use Rattle.bhs_wasm_team.specs.Tables.{saved_at}
use Rattle.bhs_agents.specs.declared.module_agent.ModuleAgent.{ModuleAgent}
use Rattle.bhs_agents.specs.Modules.{Remembers, RunsTheSame, strategy_of_module}
use Rattle.bhs_agents.specs.Searchers.{KeepsTo}

-- a property of all values of an option is a property of its value
pub by_value : {T E A B : Type 0} (P Q : T → Type 0) (result : Result T E)
    → ((it : T) → P it → A → B → Q it) → IfOk result P → OnOk result A → OnOk result B → IfOk result Q
by_value P Q (Ok it) more holds one other = more it holds one other
by_value P Q (Err error) more holds one other = tt

-- the memory of an agent in the first role, after this history
abbrev pub memory_in : Roles → (fuel : ℕ) → History → RoleMemory
memory_in roles fuel history = record {
  role = 0;
  memory = memory_after (contents_of roles.first.program) roles.first.arguments.items fuel history;
}

abbrev strategy_in : Roles → (fuel : ℕ) → Strategy
strategy_in roles fuel = strategy_of (contents_of roles.first.program) roles.first.arguments.items fuel

same_memory : (r s : Roles) (f g : ℕ) (history : History) → r ≡ s → f ≡ g
    → memory_in r f history ≡ memory_in s g history
same_memory r s f g history roles fuels =
    ap (λ (it : Roles). memory_in it f history) roles ∙ ap (λ (it : ℕ). memory_in s it history) fuels

same_strategy : (r s : Roles) (f g : ℕ) → r ≡ s → f ≡ g → strategy_in r f ≡ strategy_in s g
same_strategy r s f g roles fuels =
    ap (λ (it : Roles). strategy_in it f) roles ∙ ap (λ (it : ℕ). strategy_in s it) fuels

-- the team tells the memory after this history, and the agent takes it
pub told : (old : ModuleAgent) (between : Agents) (new : ModuleAgent) (memory : ℕ) (answered step : Step)
    (history : History)
    → Tells old.agents between (memory_in old.agents.roles old.agents.fuel history) memory answered
    → step ≡ answered → RunsTheSame between new.agents
    → saved_at new.agents.table.states.items new.memory ≡ saved_at between.table.states.items memory
    → KeepsTo strategy_of_module Remembers old history step new
told old between new memory answered step history tells is runs saved =
    let roles = runs.0 ∙ tells.same.roles in
    let fuels = runs.1 ∙ tells.same.fuel in record {
      same = same_strategy new.agents.roles old.agents.roles new.agents.fuel old.agents.fuel roles fuels;
      met = saved ∙ (tells.is_saved ∙ ap Some (sym (same_memory new.agents.roles old.agents.roles new.agents.fuel
          old.agents.fuel history roles fuels)));
      is_next = is ∙ tells.is_next;
    }

either_way : (b : Bool) (n : ℕ) → (if b then n else n) ≡ n
either_way true n = refl
either_way false n = refl

-- agent 0 begins in the first role
pub begun : (old : Agents) (between : Agents) (memory : ℕ) (answered : Step)
    → Tells old between (start_in old.roles old.fuel (role_number old.roles 0)) memory answered
    → Tells old between (memory_in old.roles old.fuel []) memory answered
begun old between memory answered tells =
    subst (λ (role : ℕ). Tells old between (start_in old.roles old.fuel role) memory answered)
    (either_way (nat_le 0 (length old.roles.others.items)) 0) tells

-- the team is asked about the memory after a history and the next observation
pub asked : (old : ModuleAgent) (between : Agents) (memory : ℕ) (answered : Step) (history : History)
    (seen item : Observation) → Remembers old history → seen ≡ item
    → IsSomeAnd (saved_at old.agents.table.states.items old.memory) (λ role_memory.
    Tells old.agents between (after_in old.agents.roles old.agents.fuel role_memory seen) memory answered)
    → Tells old.agents between (memory_in old.agents.roles old.agents.fuel (item ∷ history)) memory answered
asked old between memory answered history seen item remembers is tells =
    let it = old.agents in
    subst (λ (o : Observation). Tells it between (after_in it.roles it.fuel (memory_in it.roles it.fuel history) o)
    memory answered) is
    (subst (λ o. IsSomeAnd o (λ (role_memory : RoleMemory).
    Tells it between (after_in it.roles it.fuel role_memory seen) memory answered)) remembers tells)
