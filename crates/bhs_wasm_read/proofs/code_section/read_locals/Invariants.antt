use Rattle.std.proofs.Common.{◌≡◌, length, Ok}
use Rattle.bhs_wasm_read.specs.Bodies.{group}
use Rattle.bhs_wasm_read.specs.Values.{over}
use Rattle.bhs_wasm_read.proofs.code_section.read_locals.Given as goal

abbrev pub invariant-loop : goal.invariant-loop
invariant-loop l = over group l.counter (length l.initial.locals.items) l.initial.bytes.left.now
    ≡ Ok (length l.locals.items, l.bytes.left.now)
