use Rattle.std.proofs.Common.{◌≡◌}
use Rattle.bhs_wasm_read.specs.Bodies.{flow_of, lowered}
use Rattle.bhs_wasm_read.proofs.blocks.Body.pop_alike.Given as goal

abbrev pub invariant-loop : goal.invariant-loop
invariant-loop l = flow_of l.self ≡ lowered l.counter (flow_of l.initial.self)
