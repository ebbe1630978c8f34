use Rattle.std.proofs.Common.{◌≡◌}
use Rattle.std.specs.Prelude.{filter}
use Rattle.std.specs.List.{range_with_len}
use Rattle.bhs_view.specs.Twins.{is_moved}
use Rattle.bhs_view.proofs.twins.moved_holes.Given as goal

abbrev pub invariant-loop-node : goal.invariant-loop-node
invariant-loop-node l = l.nodes.items ≡ filter (is_moved l.setup.holes l.old l.new) (range_with_len 0 l.node)
