-- Each read so far brought more of the script, and the lines that ended in it were answered.
use Rattle.std.proofs.Common.{◌≡◌, ◌≤◌, ◌+◌, ◌*◌, [], length, false}
use Rattle.bhs_stream.specs.declared.reader.TheConstants.{BUFFER}
use Rattle.bhs_cli_rehearse.specs.Shells.{progress_of}
use Rattle.bhs_cli.specs.LineStates.{IsPart}
use Rattle.bhs_cli_rehearse.specs.Interactive.{Interacts}
use Rattle.bhs_cli_rehearse.proofs.interactive.interact.Given as goal

abbrev pub invariant-loop : goal.invariant-loop
invariant-loop g l =
    Interacts g.R.Input.gives g.W.Output.takes g.W.Output.flushes l.turns l.fn.shell.rehearsal.stage l.fn.reader
    l.fn.writer l.counter false (progress_of l.shell []) l.reader l.writer
    × IsPart l.shell.line.items
    × (l.shell.games ≡ length l.fn.shell.rehearsal.stage.games)
    × (l.shell.answered + length l.shell.line.items ≤ l.counter * BUFFER)
