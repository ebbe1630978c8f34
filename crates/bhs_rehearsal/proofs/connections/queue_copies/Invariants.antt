-- Loop invariant: the queued lines followed by the remaining lines are the old queue followed by all lines.
use Rattle.std.proofs.Common.{◌≡◌, ◌++◌, map, length}
use Rattle.bhs_wire.specs.Lines.{seen}
use Rattle.bhs_rehearsal.specs.Connections.{Says}
use Rattle.bhs_rehearsal.specs.Rehearsing.{seen_item}
use Rattle.bhs_rehearsal.proofs.connections.queue_copies.Given as goal

abbrev pub invariant-loop-line : goal.invariant-loop-line
invariant-loop-line l =
    map seen_item l.queue.items ++ map Says (map seen l.found.items)
    ≡ map seen_item l.fn.queue.items ++ map Says (map seen l.fn.found.items)

abbrev pub decreases-loop-line : goal.decreases-loop-line
decreases-loop-line l = length l.found.items
