use Rattle.std.proofs.Common.{◌≡◌}
use Rattle.bhs_wasm_read.specs.Bodies.{flow_of, raised}
use Rattle.bhs_wasm_read.proofs.blocks.Body.push_all.Given as goal

abbrev pub invariant-loop-value : goal.invariant-loop-value
invariant-loop-value l = flow_of l.self ≡ raised l.value-index (flow_of l.initial.self)
