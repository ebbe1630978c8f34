use Rattle.std.proofs.Common.{◌≡◌}
use Rattle.std.specs.List.{flat_map, range_with_len}
use Rattle.bhs_model.specs.PortMarks.{mark_at}
use Rattle.bhs_model.specs.Setups.{links_at}
use Rattle.bhs_model.proofs.destroyers.Destroyers.dark.Given as goal

abbrev pub invariant-loop-node : goal.invariant-loop-node
invariant-loop-node l = l.ends.items ≡ flat_map (links_at l.net (mark_at l.self.ports)) (range_with_len 0 l.node)
