use Rattle.std.proofs.Common.{◌≡◌}
use Rattle.bhs_wasm_read.specs.Modules.{nulls}
use Rattle.bhs_wasm_read.proofs.declarations.nulls.Given as goal

abbrev pub invariant-loop : goal.invariant-loop
invariant-loop l = l.table.items ≡ nulls l.counter
