use Rattle.std.proofs.Common.{◌≡◌, ◌++◌, ◌∷◌, [], true, length}
use Rattle.bhs_script.specs.Transcript.{begun_with}
use Rattle.bhs_script.proofs.output.push_all_lines.Given as goal

abbrev pub invariant-loop-line : goal.invariant-loop-line
invariant-loop-line l =
    l.text.items ++ begun_with (l.number ++ 32 ∷ []) true l.after
    ≡ l.fn.text.items ++ begun_with (l.number ++ 32 ∷ []) true l.bytes

abbrev pub decreases-loop-line : goal.decreases-loop-line
decreases-loop-line l = length l.after
