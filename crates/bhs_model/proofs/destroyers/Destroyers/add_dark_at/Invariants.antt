use Rattle.std.proofs.Common.{◌≡◌, ◌++◌}
use Rattle.std.specs.Prelude.{filter, map}
use Rattle.std.specs.List.{range_with_len}
use Rattle.bhs_model.specs.PortMarks.{mark_at}
use Rattle.bhs_model.specs.Setups.{is_lesser_end}
use Rattle.bhs_model.proofs.destroyers.Destroyers.add_dark_at.Given as goal

abbrev pub invariant-loop-port : goal.invariant-loop-port
invariant-loop-port l = l.ends.items ≡ l.fn.ends.items ++ filter (is_lesser_end l.net (mark_at l.self.ports))
    (map (λ port. (l.node, port)) (range_with_len 0 l.port))
