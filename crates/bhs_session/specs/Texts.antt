-- What a line says, and the lines that are sent.
use Rattle.std.specs.Prelude.{ℕ, List, [], ◌∷◌, ◌++◌}
use Rattle.bhs_model.specs.declared.commands.Command.{Command}
use Rattle.bhs_model.specs.declared.commands.Command.TheVariants as commands
use Rattle.bhs_model.specs.declared.replies.Reply.{Reply}
use Rattle.bhs_wire.specs.declared.commands.First.{First}
use Rattle.bhs_wire.specs.declared.commands.First.TheVariants.{Enter, Tell}
use Rattle.bhs_wire.specs.declared.denials.Denial.{Denial}
use Rattle.bhs_wire.specs.Denial.{denial_line}
use Rattle.bhs_wire.specs.Lines.{Line, said_by}
use Rattle.bhs_wire.specs.Reply.{line as line_of}

-- the command of a line; an enter with a key is the command Enter, and its key is not looked at
abbrev pub command_by : First → Command
command_by (Enter key) = commands.Enter
command_by (Tell command) = command

-- the command of a line that was found
abbrev pub command_of : Line → Command
command_of line = command_by (said_by line)

-- the line of a reply, and the line of a denial, as sent to the client
abbrev pub text_of : Reply → List ℕ
text_of reply = line_of reply ++ 10 ∷ []

abbrev pub denial_text : Denial → List ℕ
denial_text denial = denial_line denial ++ 10 ∷ []
