use Rattle.std.proofs.Common.{◌≡◌, Some}
use Rattle.bhs_wasm_read.specs.Modules.{parts_of, callers}
use Rattle.bhs_wasm_read.proofs.sections.Sections.add_callers.Given as goal

abbrev pub invariant-loop-k : goal.invariant-loop-k
invariant-loop-k l = record {
  parts : callers l.k (parts_of l.initial.self) ≡ Some (parts_of l.self);
  imports : l.self.imports ≡ l.initial.self.imports;
  import_types : l.self.import_types ≡ l.initial.self.import_types;
}
