use Rattle.std.proofs.Common.{◌≡◌, ◌++◌, map, take}
use Rattle.bhs_wasm_read.specs.Bodies.{led}
use Rattle.bhs_wasm_read.proofs.blocks.Body.append_to.Given as goal

abbrev pub invariant-loop-instruction : goal.invariant-loop-instruction
invariant-loop-instruction l = l.code.items
    ≡ l.initial.code.items ++ map (led l.self.labels.items) (take l.instruction-index l.self.code.items)
