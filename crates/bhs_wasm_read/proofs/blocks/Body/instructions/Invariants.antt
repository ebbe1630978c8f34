use Rattle.std.proofs.Common.{◌≡◌, ◌-◌, length}
use Rattle.bhs_wasm_read.specs.Bodies.{flow_of, instructions}
use Rattle.bhs_wasm_read.proofs.blocks.Body.instructions.Given as goal

abbrev pub invariant-loop : goal.invariant-loop
invariant-loop l = instructions (length l.initial.bytes.left.now - l.counter) (flow_of l.self) l.bytes.left.now
    ≡ instructions (length l.initial.bytes.left.now) (flow_of l.initial.self) l.initial.bytes.left.now
