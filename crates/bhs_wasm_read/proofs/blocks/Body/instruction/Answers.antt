use Rattle.std.proofs.Common.{sym, ◌∙◌}
use Rattle.bhs_wasm_read.specs.Bodies.{flow_of}
use Rattle.bhs_wasm_read.proofs.Flows.{plain-next}
use Rattle.bhs_wasm_read.proofs.blocks.Body.instruction.Goals as goal

pub returns-else-is_control : goal.returns-else-is_control
returns-else-is_control c =
    rw (plain-next (flow_of c.args.self.now) c.in_ok-opcode.opcode _ _ c.in_ok-opcode.ensures.read
    c.if-opcode-eq0.false c.if-opcode-eq1.false (sym c.is_control.ensures ∙ c.if-is_control.false)) c.plain.ensures
