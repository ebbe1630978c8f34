-- What agents do: each does next what its strategy says, and a strategy knows what its agent has heard.
use Rattle.std.specs.Prelude.{ℕ, Option, Some, None, List, ◌∷◌}
use Rattle.bhs_model.specs.declared.replies.Reply.{Reply}
use Rattle.bhs_schedules.specs.declared.answers.Step.{Step}

-- what happens to an agent: it hears a reply, an arrival's too, or it wakes
pub data Observation : Type 0 where
  Heard : Reply → Observation
  Woke : Observation

-- all that has happened to an agent, the newest first
abbrev pub History : Type 0
History = List Observation

-- A deterministic agent: its next step is a function of its history.
abbrev pub Strategy : Type 0
Strategy = History → Step

-- the agents of a match, by number
abbrev pub Strategies : Type 0
Strategies = (agent : ℕ) → Strategy

-- extends the history by an optional reply
abbrev pub hearing : Option Reply → History → History
hearing (Some reply) history = Heard reply ∷ history
hearing None history = history
