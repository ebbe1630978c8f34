-- Loop invariant: the effect of the items taken so far, followed by that of the remaining items, is the effect of all
-- items.
use Rattle.std.proofs.Common.{◌≡◌, map, length}
use Rattle.bhs_rehearsal.specs.Connections.{taken}
use Rattle.bhs_rehearsal.specs.Rehearsing.{game_of, team_of, seen_item}
use Rattle.bhs_rehearsal.specs.Takings.{behind}
use Rattle.bhs_rehearsal.proofs.takings.take_items.Given as goal

abbrev pub invariant-loop-item : goal.invariant-loop-item
invariant-loop-item l =
    (behind l.fn.text.items (taken (game_of l.fn.ready) l.agent (map seen_item l.fn.queue.items))
    ≡ behind l.text.items (taken (game_of l.ready) l.agent (map seen_item l.queue.items)))
    × (team_of l.ready ≡ team_of l.fn.ready)

abbrev pub decreases-loop-item : goal.decreases-loop-item
decreases-loop-item l = length l.queue.items
