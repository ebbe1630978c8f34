use Rattle.std.proofs.Common.{◌≡◌}
use Rattle.bhs_replay.proofs.LinkLists.{links_before}
use Rattle.bhs_replay.proofs.links.links_of.Given as goal

abbrev pub invariant-loop-node : goal.invariant-loop-node
invariant-loop-node l = l.links.items ≡ links_before l.net l.node
