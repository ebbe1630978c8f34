-- The lines that ended so far were answered.
use Rattle.std.proofs.Common.{◌≡◌, ◌≤◌, ◌+◌, length}
use Rattle.bhs_cli_rehearse.specs.Shells.{progress_of}
use Rattle.bhs_cli.specs.LineStates.{IsPart}
use Rattle.bhs_cli_rehearse.specs.Interactive.{Answers}
use Rattle.bhs_cli_rehearse.proofs.interactive.answer_piece.Given as goal

abbrev pub invariant-loop-rest : goal.invariant-loop-rest
invariant-loop-rest g l =
    Answers g.W.Output.takes l.fn.shell.games (progress_of l.fn.shell l.piece) l.fn.writer
    (progress_of l.shell l.after)
    l.writer
    × IsPart l.shell.line.items
    × (l.shell.games ≡ l.fn.shell.games)
    × (l.shell.answered + (length l.shell.line.items + length l.after)
    ≤ l.fn.shell.answered + (length l.fn.shell.line.items + length l.piece))

abbrev pub decreases-loop-rest : goal.decreases-loop-rest
decreases-loop-rest g l = length l.shell.line.items + length l.after
