use Rattle.std.proofs.Common.{◌≡◌, [], Ok}
use Rattle.bhs_wasm_read.specs.Types.{one_type}
use Rattle.bhs_wasm_read.specs.Values.{over, added}
use Rattle.bhs_wasm_read.proofs.module_types.value_types.Given as goal

abbrev pub invariant-loop : goal.invariant-loop
invariant-loop l = over (added one_type) l.counter [] l.initial.bytes.left.now ≡ Ok (l.types.items, l.bytes.left.now)
