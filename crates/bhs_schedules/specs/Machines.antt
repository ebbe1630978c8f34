-- Agents as state machines: the memory determines the next step, and observations determine the memory.
use Rattle.std.specs.Prelude.{ℕ, [], ◌∷◌}
use Rattle.bhs_schedules.specs.declared.answers.Step.{Step}
use Rattle.bhs_schedules.specs.Strategies.{Observation, History, Strategies}

-- The machines of a team. Memories are numbers; agents of one program begin with the same memory.
pub record Machines : Type 0 where
  pub start : (agent : ℕ) → ℕ
  pub after : (memory : ℕ) → Observation → ℕ
  pub does : (memory : ℕ) → Step

-- what an agent holds after this history, the newest first
abbrev pub memory_at : Machines → (agent : ℕ) → History → ℕ
memory_at machines agent [] = machines.start agent
memory_at machines agent (item ∷ history) = machines.after (memory_at machines agent history) item

-- the strategies that the machines compute
abbrev pub strategies_of : Machines → Strategies
strategies_of machines agent history = machines.does (memory_at machines agent history)
