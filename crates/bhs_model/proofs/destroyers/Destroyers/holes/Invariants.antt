use Rattle.std.proofs.Common.{◌≡◌}
use Rattle.std.specs.Prelude.{filter}
use Rattle.std.specs.List.{range_with_len}
use Rattle.bhs_model.specs.Destroyers.{is_marked}
use Rattle.bhs_model.proofs.destroyers.Destroyers.holes.Given as goal

abbrev pub invariant-loop-node : goal.invariant-loop-node
invariant-loop-node l = l.nodes.items ≡ filter (is_marked l.self) (range_with_len 0 l.node)
