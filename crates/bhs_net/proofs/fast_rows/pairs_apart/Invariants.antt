use Rattle.std.proofs.Common.{ℕ, ◌<◌}
use Rattle.bhs_net.specs.Filling.{IsFirst}
use Rattle.bhs_net.proofs.fast_rows.pairs_apart.Given as goal

abbrev pub invariant-loop-port : goal.invariant-loop-port
invariant-loop-port l = (one : ℕ) → one < l.port → IsFirst l.row one
