use Rattle.std.proofs.Common.{◌≢◌, ℕ, ◌<◌}
use Rattle.bhs_net.specs.Search.{IsMarked}
use Rattle.bhs_net.proofs.search.reaches_all.Given as goal

abbrev pub invariant-loop-node : goal.invariant-loop-node
invariant-loop-node l = (early : ℕ) → early < l.node → early ≢ l.removed → IsMarked l.is_marked-items early
