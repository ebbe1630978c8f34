-- The command that a pass keeps.
use Rattle.std.specs.Prelude.{Option, Some, None, []}
use Rattle.std.specs.Global.{Box}
use Rattle.bhs_model.specs.declared.commands.Command.{Command}
use Rattle.bhs_model.specs.declared.commands.Command.TheVariants as commands
use Rattle.bhs_shared_match.specs.declared.kept_command.Form.{Form}
use Rattle.bhs_shared_match.specs.declared.kept_command.Form.TheVariants as forms
use Rattle.bhs_shared_match.specs.declared.kept_command.WriteTexts.{WriteTexts}

-- a Write with these texts; without texts, with empty ones
abbrev pub write_of : Option (Box WriteTexts) → Command
write_of (Some texts) = commands.Write texts.value.expect texts.value.put
write_of None = commands.Write [] []

-- the command that is kept in this form
abbrev pub command_of : Form → Command
command_of forms.Enter = commands.Enter
command_of forms.Look = commands.Look
command_of (forms.Write texts) = write_of texts
command_of (forms.Depart port) = commands.Depart port
command_of (forms.Accuse port) = commands.Accuse port
command_of forms.Leave = commands.Leave
command_of forms.Bad = commands.Bad
