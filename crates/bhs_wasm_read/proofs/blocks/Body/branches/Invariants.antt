use Rattle.std.proofs.Common.{◌≡◌, Ok}
use Rattle.bhs_wasm_read.specs.Bodies.{flow_of, one_branch}
use Rattle.bhs_wasm_read.specs.Values.{over}
use Rattle.bhs_wasm_read.proofs.blocks.Body.branches.Given as goal

abbrev pub invariant-loop : goal.invariant-loop
invariant-loop l = over one_branch l.counter (flow_of l.initial.self) l.initial.bytes.left.now
    ≡ Ok (flow_of l.self, l.bytes.left.now)
