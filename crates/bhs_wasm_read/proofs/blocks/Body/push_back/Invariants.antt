use Rattle.std.proofs.Common.{◌≡◌}
use Rattle.bhs_wasm_read.specs.Bodies.{flow_of, raised}
use Rattle.bhs_wasm_read.proofs.blocks.Body.push_back.Given as goal

abbrev pub invariant-loop-k : goal.invariant-loop-k
invariant-loop-k l = flow_of l.self ≡ raised l.k (flow_of l.initial.self)
