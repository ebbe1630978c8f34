use Rattle.std.proofs.Common.{◌≡◌, ◌+◌, Ok}
use Rattle.bhs_wasm_read.specs.Modules.{parts_of, placed_element}
use Rattle.bhs_wasm_read.specs.Values.{over}
use Rattle.bhs_wasm_read.proofs.sections.Sections.put_elements.Given as goal

abbrev pub invariant-loop-k : goal.invariant-loop-k
invariant-loop-k l = over (placed_element l.flags) l.k (parts_of l.initial.self, l.first) l.initial.bytes.left.now
    ≡ Ok ((parts_of l.self, l.first + l.k), l.bytes.left.now)
