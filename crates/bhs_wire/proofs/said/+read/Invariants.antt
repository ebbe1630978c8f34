use Rattle.std.proofs.Common.{◌+◌, ◌*◌, length}
use Rattle.json.specs.Json.{value}
use Rattle.bhs_wire.proofs.Turns.{IsPastItems, IsPastMembers}
use Rattle.bhs_wire.proofs.said.+read.Given as goal

abbrev pub decreases-read_value : goal.decreases-read_value
decreases-read_value l = 2 * l.depth

abbrev pub decreases-skip_items : goal.decreases-skip_items
decreases-skip_items l = 2 * l.depth + 1

abbrev pub decreases-read_members : goal.decreases-read_members
decreases-read_members l = 2 * l.depth + 1

abbrev pub invariant-skip_items-items : goal.invariant-skip_items-items
invariant-skip_items-items l = IsPastItems (value l.depth) l.initial.reader l.reader

abbrev pub decreases-skip_items-items : goal.decreases-skip_items-items
decreases-skip_items-items l = length l.reader

abbrev pub invariant-read_members-members : goal.invariant-read_members-members
invariant-read_members-members l = IsPastMembers (value l.depth) l.initial.reader l.reader l.said

abbrev pub decreases-read_members-members : goal.decreases-read_members-members
decreases-read_members-members l = length l.reader
