use Rattle.std.proofs.Common.{◌≡◌, ◌++◌}
use Rattle.bhs_replay.proofs.LinkLists.{links_until}
use Rattle.bhs_replay.proofs.links.add_links_at.Given as goal

abbrev pub invariant-loop-port : goal.invariant-loop-port
invariant-loop-port l = l.links.items ≡ l.fn.links.items ++ links_until l.net l.node l.port
