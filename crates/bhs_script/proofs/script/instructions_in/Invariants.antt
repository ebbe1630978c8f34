use Rattle.std.proofs.Common.{◌≡◌, ◌+◌, ◌≤◌, length, map}
use Rattle.bhs_script.specs.Script.{instructions_from, instructions_of}
use Rattle.bhs_script.specs.Instructions.{seen}
use Rattle.bhs_script.proofs.InstructionLemmas.{with_front, rest_lines, bytes_left}
use Rattle.bhs_script.proofs.script.instructions_in.Given as goal

abbrev pub invariant-loop-rest : goal.invariant-loop-rest
invariant-loop-rest l =
    (with_front (map seen l.found.items) (instructions_from l.games (l.number + 1)
    (rest_lines l.rest)) ≡ instructions_of l.games l.script)
    × (l.number + bytes_left l.rest ≤ length l.script + 1)

abbrev pub decreases-loop-rest : goal.decreases-loop-rest
decreases-loop-rest l = bytes_left l.rest
