use Rattle.std.proofs.Common.{◌≤◌, length}
use Rattle.bhs_net.specs.Network.{network_of}
use Rattle.bhs_net.proofs.Marks.{IsSearch, AreDone, IsStep}
use Rattle.bhs_net.proofs.search.reached.Given as goal

abbrev pub invariant-loop-next : goal.invariant-loop-next
invariant-loop-next l = record {
  search : IsSearch (network_of l.rows) l.start l.removed l.marks.items l.found.items;
  done : AreDone (network_of l.rows) l.removed l.marks.items l.found.items l.next;
  within : l.next ≤ length l.found.items;
}

abbrev pub invariant-loop-end : goal.invariant-loop-end
invariant-loop-end l = IsStep (network_of l.rows) l.start l.removed l.next l.node l.end-index
    l.marks.items l.found.items
