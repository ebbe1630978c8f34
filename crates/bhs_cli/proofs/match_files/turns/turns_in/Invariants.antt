use Rattle.std.proofs.Common.{◌≡◌, ◌++◌, length}
use Rattle.bhs_cli.specs.Turns.{turns_text, IsOfTurns}
use Rattle.bhs_cli.proofs.match_files.turns.turns_in.Given as goal

abbrev pub invariant-loop-line : goal.invariant-loop-line
invariant-loop-line l = record {
  so_far : turns_text l.turns.items ++ l.after ≡ l.fn.text;
  left : IsOfTurns l.fn.text → IsOfTurns l.after;
}

abbrev pub decreases-loop-line : goal.decreases-loop-line
decreases-loop-line l = length l.after
