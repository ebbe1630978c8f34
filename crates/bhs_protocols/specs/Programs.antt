-- Agents that run a program whose memory is of any kind.
use Rattle.std.specs.Prelude.{ℕ, [], ◌∷◌}
use Rattle.bhs_schedules.specs.declared.answers.Step.{Step}
use Rattle.bhs_schedules.specs.Strategies.{Observation, History, Strategies}

-- A program: the initial memory of each agent, the memory after an observation, and the step for a memory.
pub record Program (M : Type 0) : Type 0 where
  pub start : (agent : ℕ) → M
  pub after : M → Observation → M
  pub does : M → Step

-- what an agent holds after this history, the newest first
abbrev pub held_after : {M : Type 0} → Program M → (agent : ℕ) → History → M
held_after program agent [] = program.start agent
held_after program agent (item ∷ history) = program.after (held_after program agent history) item

-- the strategies of agents that run a program
abbrev pub strategies_by : {M : Type 0} → Program M → Strategies
strategies_by program agent history = program.does (held_after program agent history)
