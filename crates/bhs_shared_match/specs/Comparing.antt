-- When the receipts of a pass are the heard commands of its agent in a log.
use Rattle.std.specs.Prelude.{ℕ, ◌+◌, ◌<◌, ◌≡◌, ◌≢◌, Option, Some, None, List, [], ◌∷◌, ◌==◌, if◌then◌else◌, slice_get}
use Rattle.bhs_model.specs.declared.commands.Command.{Command}
use Rattle.bhs_model.specs.declared.events.Event.{Event}
use Rattle.bhs_model.specs.declared.events.Event.TheVariants.{Tell}
use Rattle.bhs_model.specs.declared.marks.Mark.{Mark}
use Rattle.bhs_model.specs.declared.marks.Kept.{Kept}
use Rattle.bhs_model.specs.declared.replies.Reply.{Reply}
use Rattle.bhs_model.specs.Marks.{read_if}
use Rattle.bhs_shared_match.specs.declared.model.Receipt.{Receipt}
use Rattle.bhs_shared_match.specs.Passes.{kept_command}

-- a heard command with its place and its reply, as a pass keeps it
pub record HeardEntry : Type 0 where
  pub place : ℕ
  pub command : Command
  pub reply : Option Reply

abbrev pub kept_if : Command → Option Reply → Command
kept_if command (Some reply) = kept_command command reply
kept_if command None = command

-- a command of the log, its mark read in the whole log
abbrev pub entry_of : (whole : List Kept) → (place : ℕ) → Command → Option Mark → HeardEntry
entry_of whole place command mark = record {
  place = place;
  command = kept_if command (read_if whole mark);
  reply = read_if whole mark;
}

-- this agent's command in an event, where present
abbrev pub command_by : (agent : ℕ) → Event → Option Command
command_by agent (Tell other command) = if agent == other then Some command else None
command_by agent event = None

-- prepends an optional command as an entry
abbrev pub entry_first : (whole : List Kept) → (place : ℕ) → Option Command → Option Mark → List HeardEntry
    → List HeardEntry
entry_first whole place (Some command) mark others = entry_of whole place command mark ∷ others
entry_first whole place None mark others = others

abbrev pub heard_from : (whole : List Kept) → (agent place : ℕ) → List Kept → List HeardEntry
heard_from whole agent place [] = []
heard_from whole agent place (one ∷ others) =
    entry_first whole place (command_by agent one.event) one.mark (heard_from whole agent (place + 1) others)

-- the agent's heard commands in a log
abbrev pub heard_in : (agent : ℕ) → List Kept → List HeardEntry
heard_in agent log = heard_from log agent 0 log

abbrev pub entry_in : Receipt → Command → HeardEntry
entry_in receipt command = record { place = receipt.place; command = command; reply = Some receipt.reply }

-- what a pass says that was heard
abbrev pub receipted : List Receipt → List Command → List HeardEntry
receipted (receipt ∷ receipts) (command ∷ commands) = entry_in receipt command ∷ receipted receipts commands
receipted receipts commands = []

-- the least index at which two lists differ, or one ends
pub record IsFirstDifference {A : Type 0} (one two : List A) (index : ℕ) : Type 0 where
  pub there : slice_get one index ≢ slice_get two index
  pub before : (k : ℕ) → k < index → slice_get one k ≡ slice_get two k
