use Rattle.bhs_wasm_read.proofs.Flows.{over-more}
use Rattle.bhs_wasm_read.proofs.sections.Sections.entries.Goals as goal

pub loop-preserved : goal.loop-preserved
loop-preserved c = over-more _ _ _ _ _ _ _ _ c.loop.invariant (rw c.begin.ensures.left at c.in_ok-entry.ensures)
