use Rattle.std.proofs.Common.{◌≡◌, ◌++◌}
use Rattle.bhs_wasm_read.specs.Modules.{pushes_locals}
use Rattle.bhs_wasm_read.proofs.sections.push_call.Given as goal

abbrev pub invariant-loop-k : goal.invariant-loop-k
invariant-loop-k l = l.code.items ≡ l.initial.code.items ++ pushes_locals l.k
