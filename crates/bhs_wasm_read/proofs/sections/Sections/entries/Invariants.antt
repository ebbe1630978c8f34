use Rattle.std.proofs.Common.{◌≡◌, Ok}
use Rattle.bhs_wasm_read.specs.Modules.{parts_of, entry}
use Rattle.bhs_wasm_read.specs.Values.{over}
use Rattle.bhs_wasm_read.proofs.sections.Sections.entries.Given as goal

abbrev pub invariant-loop : goal.invariant-loop
invariant-loop l = over (entry l.number) l.counter (parts_of l.initial.self) l.initial.bytes.left.now
    ≡ Ok (parts_of l.self, l.bytes.left.now)
