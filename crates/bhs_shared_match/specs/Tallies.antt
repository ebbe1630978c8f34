-- A legal history: a log that is what is kept of itself, each event with its reply, and beside it two numbers of each
-- agent.
use Rattle.std.specs.Prelude.{ℕ, ◌<◌, ◌≡◌, Bool, true, false, List, ◌==◌, map, length, count_by, slice_index_or}
use Rattle.bhs_model.specs.declared.events.Event.{Event}
use Rattle.bhs_model.specs.declared.events.Event.TheVariants.{Tell}
use Rattle.bhs_model.specs.declared.marks.Kept.{Kept}
use Rattle.bhs_model.specs.Views.{Standing, Ended, standing}
use Rattle.bhs_model.specs.Kept.{kept}
use Rattle.bhs_model.specs.Marks.{events_of, read_if}
use Rattle.bhs_model.specs.InOrder.{replies}
use Rattle.bhs_match.specs.Matches.{Play, world_in, state_of}
use Rattle.bhs_shared_match.specs.declared.model.Tally.{Tally}

-- Decides whether an event of the log is a command of this agent.
abbrev pub is_told_by : (agent : ℕ) → Event → Bool
is_told_by agent (Tell other command) = agent == other
is_told_by agent event = false

-- how many commands of the agent stand in a log
abbrev pub heard_count : (agent : ℕ) → List Kept → ℕ
heard_count agent log = count_by (λ one. is_told_by agent one.event) log

-- whether an agent in this standing has ended
abbrev pub has_ended : Standing → Bool
has_ended Ended = true
has_ended standing = false

-- the two numbers of an agent: how many of its commands were heard, and whether it has ended
abbrev pub tally_of : (agent : ℕ) → Play → Tally
tally_of agent play = record {
  commands = heard_count agent play.log;
  ended = has_ended (standing ((state_of play).past agent));
}

-- no command, and not ended
abbrev pub nothing : Tally
nothing = record { commands = 0; ended = false }

-- the numbers that stand at an agent's place
abbrev pub tally_at : List Tally → (agent : ℕ) → Tally
tally_at tallies agent = slice_index_or tallies agent nothing

-- A legal history. Arrivals, the pool and the close are functions of its log.
pub record IsLegalHistory (play : Play) (tallies : List Tally) : Type 0 where
  pub kept_alone : kept (world_in play) (events_of play.log) ≡ events_of play.log
  pub replied : map (λ one. read_if play.log one.mark) play.log ≡ replies (world_in play) (events_of play.log)
  pub agents : length tallies ≡ play.setup.agents
  pub tallied : (agent : ℕ) → agent < play.setup.agents → tally_at tallies agent ≡ tally_of agent play
