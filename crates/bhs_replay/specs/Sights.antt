-- What is seen in a line, without where its texts lie in memory.
use Rattle.bhs_model.specs.declared.commands.Command.{Command}
use Rattle.bhs_model.specs.declared.commands.Command.TheVariants as commands
use Rattle.bhs_model.specs.declared.events.Event.{Event}
use Rattle.bhs_model.specs.declared.events.Event.TheVariants as events
use Rattle.bhs_replay.specs.declared.sights.LentCommand.{LentCommand}
use Rattle.bhs_replay.specs.declared.sights.LentCommand.TheVariants.{Enter, Look, Write, Depart, Accuse, Leave, Bad}
use Rattle.bhs_replay.specs.declared.sights.LentEvent.{LentEvent}
use Rattle.bhs_replay.specs.declared.sights.LentEvent.TheVariants.{Tell, Deliver, Close}

-- the command
abbrev pub command_of : LentCommand → Command
command_of Enter = commands.Enter
command_of Look = commands.Look
command_of (Write expect put) = commands.Write expect.now put.now
command_of (Depart port) = commands.Depart port
command_of (Accuse port) = commands.Accuse port
command_of Leave = commands.Leave
command_of Bad = commands.Bad

-- the event
abbrev pub event_of : LentEvent → Event
event_of (Tell agent command) = events.Tell agent (command_of command)
event_of (Deliver agent) = events.Deliver agent
event_of Close = events.Close
