use Rattle.std.proofs.Common.{◌≡◌, List, ◌++◌, length, map}
use Rattle.bhs_wire.specs.Lines.{Line, seen, lines, rest}
use Rattle.bhs_wire.proofs.pieces.push_lines.Given as goal

-- Loop invariant: the lines found so far, followed by the lines of the remaining bytes, are all lines; earlier lines
-- are kept in front.
abbrev pub invariant-loop-line : goal.invariant-loop-line
invariant-loop-line l =
    record {
      found : map seen l.found.items ++ lines l.after ≡ map seen l.fn.found.items ++ lines l.bytes;
      rest : rest l.after ≡ rest l.bytes;
      front : (more : List Line) × (map seen l.found.items ≡ map seen l.fn.found.items ++ more);
    }

abbrev pub decreases-loop-line : goal.decreases-loop-line
decreases-loop-line l = length l.after
