use Rattle.std.proofs.Common.{◌≡◌, ◌+◌, length}
use Rattle.bhs_wasm_read.specs.Bodies.{flow_of, lowered}
use Rattle.bhs_wasm_read.proofs.blocks.Body.pop_into.Given as goal

abbrev pub invariant-loop-k : goal.invariant-loop-k
invariant-loop-k l = record {
  flow : flow_of l.self ≡ lowered l.k (flow_of l.initial.self);
  popped : length l.popped.items ≡ length l.initial.popped.items + l.k;
}
