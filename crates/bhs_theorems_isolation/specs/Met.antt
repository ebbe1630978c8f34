-- What a client met, oldest first, and the bytes of it. The bytes are a function of what was met and of how much a
-- whiteboard holds: no network, no number of a node or an agent, no match and no script is an argument.
use Rattle.std.specs.Prelude.{ℕ, ◌≡◌, Bool, true, false, List, [], ◌∷◌, ◌++◌}
use Rattle.bhs_model.specs.declared.commands.Command.{Command}
use Rattle.bhs_model.specs.declared.replies.Reply.{Reply}
use Rattle.bhs_model.specs.declared.replies.Reply.TheVariants.{No}
use Rattle.bhs_model.specs.Views.{View, Start, Told, Arrived, Glance, Sight, Standing, Away, Ended, standing, ports}
use Rattle.bhs_model.specs.Replying.{answer, here, hears, refusal}
use Rattle.bhs_session.specs.Texts.{text_of}

pub data Meeting : Type 0 where
  -- a heard command, with the node's answer
  Hears : Command → Glance → Meeting
  -- a command that was refused
  Refuses : Command → Meeting
  -- an arrival at a node
  Arrives : Sight → Meeting

-- ---- the past that it makes

abbrev pub past_after : View → Meeting → View
past_after view (Hears command glance) = Told view command glance
past_after view (Refuses command) = view
past_after view (Arrives sight) = Arrived view sight

abbrev pub view_from : View → List Meeting → View
view_from view [] = view
view_from view (meeting ∷ met) = view_from (past_after view meeting) met

abbrev pub view_of : List Meeting → View
view_of = view_from Start

-- ---- the commands in it

abbrev pub command_in : Meeting → List Command
command_in (Hears command glance) = command ∷ []
command_in (Refuses command) = command ∷ []
command_in (Arrives sight) = []

abbrev pub commands : List Meeting → List Command
commands [] = []
commands (meeting ∷ met) = command_in meeting ++ commands met

-- ---- its bytes

-- the reply to an agent with this past
abbrev pub answer_to : (limit : ℕ) → View → Meeting → Reply
answer_to limit view (Hears command glance) = answer limit (standing view) (ports view) command glance
answer_to limit view (Refuses command) = No (refusal (standing view) command)
answer_to limit view (Arrives sight) = here limit sight

abbrev pub bytes_from : (limit : ℕ) → View → List Meeting → List ℕ
bytes_from limit view [] = []
bytes_from limit view (meeting ∷ met) =
    text_of (answer_to limit view meeting) ++ bytes_from limit (past_after view meeting) met

-- the output for these meetings, concatenated
abbrev pub bytes : (limit : ℕ) → List Meeting → List ℕ
bytes limit met = bytes_from limit Start met

-- ---- what can be met

-- Whether an agent with this standing takes lines: neither on a link nor after its end.
abbrev pub takes_commands : Standing → Bool
takes_commands Away = false
takes_commands Ended = false
takes_commands standing = true

-- a command is heard exactly if the past and the quota allow it, and only an agent on a link arrives
abbrev pub IsDue : (quota : ℕ) → View → Meeting → Type 0
IsDue quota view (Hears command glance) = (takes_commands (standing view) ≡ true) × (hears quota view command ≡ true)
IsDue quota view (Refuses command) = (takes_commands (standing view) ≡ true) × (hears quota view command ≡ false)
IsDue quota view (Arrives sight) = standing view ≡ Away

abbrev pub AreDue : (quota : ℕ) → View → List Meeting → Type 0
AreDue quota view [] = Unit {0}
AreDue quota view (meeting ∷ met) = IsDue quota view meeting × AreDue quota (past_after view meeting) met
