-- What a module says, without where it lies in memory.
use Rattle.std.specs.Prelude.{ℕ, List, Option}
use Rattle.bhs_wasm.specs.declared.instructions.Instruction.{Instruction}
use Rattle.bhs_wasm.specs.declared.modules.Function.{Function}
use Rattle.bhs_wasm.specs.declared.modules.Module.{Module}

-- The parts of an instance: its code, functions, table, memory and globals.
pub record Contents : Type 0 where
  pub code : List Instruction
  pub functions : List Function
  -- the functions that `call_indirect` calls
  pub table : List (Option ℕ)
  pub globals : List ℕ
  -- the first bytes of the memory; all others are zero
  pub memory : List ℕ
  pub pages : ℕ
  pub max_pages : ℕ
  -- the function that is exported as `run`
  pub entry : ℕ
  -- how many functions are imported
  pub imports : ℕ

abbrev pub contents_of : Module → Contents
contents_of it = record {
  code = it.code.items;
  functions = it.functions.items;
  table = it.table.items;
  globals = it.globals.items;
  memory = it.memory.items;
  pages = it.pages;
  max_pages = it.max_pages;
  entry = it.entry;
  imports = it.imports;
}
