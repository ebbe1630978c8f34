-- What a pass holds.
use Rattle.std.specs.Prelude.{ℕ, ◌+◌, ◌<◌, ◌≤◌, Bool, true, false, Option, Some, None, List, [], ◌∷◌, ◌++◌, length, map}
use Rattle.std.specs.Prelude.{if◌then◌else◌}
use Rattle.std.specs.List.{list_any, range_with_len, AllByRecursion}
use Rattle.bhs_model.specs.declared.commands.Command.{Command}
use Rattle.bhs_model.specs.declared.commands.Command.TheVariants.{Write}
use Rattle.bhs_model.specs.declared.replies.Reply.{Reply}
use Rattle.bhs_model.specs.declared.replies.Reply.TheVariants.{Noted, Bye}
use Rattle.bhs_world.specs.Tables.{is_of_board}
use Rattle.bhs_shared_match.specs.declared.model.Receipt.{Receipt}
use Rattle.bhs_shared_match.specs.declared.model.Tally.{Tally}

-- The receipt book of an agent: the numbers of its match and of the agent, the quota, the receipts of its heard
-- commands together with the commands, and the receipts of its arrivals.
pub record Passed : Type 0 where
  pub game : ℕ
  pub quota : ℕ
  pub agent : ℕ
  pub receipts : List Receipt
  pub commands : List Command
  pub arrivals : List Receipt

-- a pass of an agent that was told nothing
abbrev pub empty_pass : (game quota agent : ℕ) → Passed
empty_pass game quota agent = record {
  game = game;
  quota = quota;
  agent = agent;
  receipts = [];
  commands = [];
  arrivals = [];
}

-- a pass for each agent, in order
abbrev pub passes_of : (game quota agents : ℕ) → List Passed
passes_of game quota agents = map (empty_pass game quota) (range_with_len 0 agents)

-- whether the reply shows that the agent has ended
abbrev pub is_end : Reply → Bool
is_end Noted = true
is_end Bye = true
is_end reply = false

abbrev pub is_last : Receipt → Bool
is_last receipt = is_end receipt.reply

-- how many commands a pass has receipts of, and whether its agent has ended
abbrev pub tally_in : List Receipt → Tally
tally_in receipts = record { commands = length receipts; ended = list_any is_last receipts }

-- The places of these receipts ascend, starting from this one.
abbrev pub Ascend : (least : ℕ) → List Receipt → Type 0
Ascend least [] = Unit {0}
Ascend least (receipt ∷ receipts) = (least ≤ receipt.place) × Ascend (receipt.place + 1) receipts

-- Every receipt's place lies below this one.
abbrev pub AreBelow : (place : ℕ) → List Receipt → Type 0
AreBelow place receipts = AllByRecursion (λ receipt. receipt.place < place) receipts

-- the command without its texts
abbrev pub kind_of : Command → Command
kind_of (Write expect put) = Write [] []
kind_of command = command

-- what is kept of a heard command that was answered so: of a Write that was refused the kind alone
abbrev pub kept_command : Command → Reply → Command
kept_command (Write expect put) reply = if is_of_board reply then Write expect put else kind_of (Write expect put)
kept_command command reply = command

-- the pass after a command with this reply; unchanged if the command has no place in the log
abbrev pub gained : Passed → Command → (place : Option ℕ) → Reply → Passed
gained pass command (Some place) reply = record pass {
  receipts = pass.receipts ++ record { place = place; reply = reply } ∷ [];
  commands = pass.commands ++ kept_command command reply ∷ [];
}
gained pass command None reply = pass
