use Rattle.std.proofs.Common.{◌+◌, ◌-◌, length, arith}
use Rattle.bhs_wasm_read.proofs.Flows.{goes-on, is-last}
use Rattle.bhs_wasm_read.proofs.blocks.Body.instructions.Goals as goal

pub returns-then-self : goal.returns-then-self
returns-then-self c = is-last _ (length c.args.bytes.now.left.now - (c.loop.counter + 1)) _ _ _ _ _ (omega arith)
    c.loop.invariant (rw c.begin.ensures.left at c.in_ok-instruction.ensures) c.if-self.true

pub loop-preserved : goal.loop-preserved
loop-preserved c = goes-on _ (length c.args.bytes.now.left.now - (c.loop.counter + 1)) _ _ _ _ _ (omega arith)
    c.loop.invariant (rw c.begin.ensures.left at c.in_ok-instruction.ensures) c.if-self.false
