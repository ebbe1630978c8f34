use Rattle.std.proofs.Common.{◌≡◌}
use Rattle.bhs_wasm_read.specs.Bodies.{flow_of, lowered}
use Rattle.bhs_wasm_read.proofs.blocks.Body.pop_all.Given as goal

abbrev pub invariant-loop-k : goal.invariant-loop-k
invariant-loop-k l = flow_of l.self ≡ lowered l.k (flow_of l.initial.self)
