use Rattle.std.proofs.Common.{◌≡◌, length}
use Rattle.bhs_net.proofs.fast_rows.indexed.Given as goal

abbrev pub invariant-loop-link : goal.invariant-loop-link
invariant-loop-link l = length l.degrees.items ≡ l.nodes

abbrev pub invariant-loop-node : goal.invariant-loop-node
invariant-loop-node l = length l.degrees.items ≡ l.nodes

abbrev pub invariant-loop-degree : goal.invariant-loop-degree
invariant-loop-degree l = length l.index.items ≡ l.degree-index

abbrev pub invariant-loop-place : goal.invariant-loop-place
invariant-loop-place l = length l.index.items ≡ l.nodes
