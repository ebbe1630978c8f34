-- The decoding of a file as a module.
use Rattle.std.specs.Prelude.{ℕ, zero, suc, ◌+◌, ◌-◌, ◌*◌, ◌==◌, ◌&&◌, ◌||◌, Bool, nat_lt, nat_le, min}
use Rattle.std.specs.Prelude.{Option, Some, None, Ok, Err, List, [], ◌∷◌, ◌++◌, length, drop, map, position}
use Rattle.std.specs.Prelude.{slice_get, slice_index, slice_set, bytes_eq, codes, option_and_then, if◌then◌else◌}
use Rattle.std.specs.Cmp.Lexicographic.{pointwise}
use Rattle.bhs_wasm.specs.States.{parameters_of, put_at, zeros}
use Rattle.bhs_wasm.specs.declared.instructions.HostFunction.{HostFunction}
use Rattle.bhs_wasm.specs.declared.instructions.Instruction.{Instruction}
use Rattle.bhs_wasm.specs.declared.instructions.Instruction.TheVariants as instruction
use Rattle.bhs_wasm.specs.declared.modules.Function.{Function}
use Rattle.bhs_wasm.specs.Contents.{Contents}
use Rattle.bhs_wasm_read.specs.declared.faults.FaultKind.TheVariants as faults
use Rattle.bhs_wasm_read.specs.declared.opcodes.ValueType.TheVariants as types
use Rattle.bhs_wasm_read.specs.declared.sections.Sections.{Sections}
use Rattle.bhs_wasm_read.specs.Bodies.{Around, body, locals_behind}
use Rattle.bhs_wasm_read.specs.Files.{has_head, rank}
use Rattle.bhs_wasm_read.specs.Types.{Signature, signature, signature_of, one_type, limits}
use Rattle.bhs_wasm_read.specs.Types.{constant, host_function, is_type}
use Rattle.bhs_wasm_read.specs.Values.{Read, then_read, given, over, byte, bytes, u32, part, name}

-- a module, as far as it is read
pub record Parts : Type 0 where
  pub types : List Signature
  -- the number of the first type that is equal to each
  pub first_types : List ℕ
  -- the imported functions, with the number of each function's type
  pub imports : List HostFunction
  pub import_types : List ℕ
  -- the types of its own functions
  pub functions : List ℕ
  pub table : List (Option ℕ)
  pub pages : ℕ
  pub max_pages : ℕ
  pub globals : List ℕ
  pub entry : Option ℕ
  pub code : List Instruction
  -- its own functions whose bodies are read
  pub bodies : List Function
  pub memory : List ℕ

abbrev pub parts_of : Sections → Parts
parts_of sections = record {
  types = map signature_of sections.types.items;
  first_types = sections.first_types.items;
  imports = sections.imports.items;
  import_types = sections.import_types.items;
  functions = sections.functions.items;
  table = sections.module.table.items;
  pages = sections.module.pages;
  max_pages = sections.module.max_pages;
  globals = sections.module.globals.items;
  entry = sections.entry;
  code = sections.module.code.items;
  bodies = sections.module.functions.items;
  memory = sections.module.memory.items;
}

abbrev pub with_code : List Instruction → Parts → Parts
with_code code parts = record parts { code = code }

-- before the first section
abbrev pub no_parts : Parts
no_parts = record {
  types = [];
  first_types = [];
  imports = [];
  import_types = [];
  functions = [];
  table = [];
  pages = 0;
  max_pages = 0;
  globals = [];
  entry = None;
  code = [];
  bodies = [];
  memory = [];
}

-- ---- types, imports, functions

abbrev pub is_same : Signature → Signature → Bool
is_same a b = pointwise is_type a.parameters b.parameters && pointwise is_type a.results b.results

-- the number of the first type that is equal to the last one
abbrev pub first_or : Option ℕ → (last : ℕ) → ℕ
first_or None last = last
first_or (Some first) last = first

abbrev pub type_number : Signature → List Signature → ℕ
type_number own types = first_or (position (λ other. is_same other own) types) (length types)

abbrev pub with_type : Parts → Signature → Parts
with_type parts own = record parts {
  types = parts.types ++ own ∷ [];
  first_types = parts.first_types ++ type_number own parts.types ∷ [];
}

abbrev pub type_entry : Parts → List ℕ → Read Parts
type_entry parts left = then_read (signature left) (λ own rest. Ok (with_type parts own, rest))

abbrev pub with_import : Parts → HostFunction → (own : ℕ) → Parts
with_import parts function own = record parts {
  imports = parts.imports ++ function ∷ [];
  import_types = parts.import_types ++ own ∷ [];
}

-- a function of the module `arena`, by its name, and the number of its type
abbrev pub import_entry : Parts → List ℕ → Read Parts
import_entry parts left = then_read (name left) (λ from rest. then_read (name rest) (λ named rest.
    then_read (byte rest) (λ kind rest. if bytes_eq from (codes "arena") && kind == 0
    then given (host_function named) (λ function. then_read (u32 rest) (λ own rest.
    Ok (with_import parts function own, rest)))
    else Err faults.Import)))

abbrev pub function_entry : Parts → List ℕ → Read Parts
function_entry parts left = then_read (u32 left) (λ own rest.
    Ok (record parts { functions = parts.functions ++ own ∷ [] }, rest))

-- ---- tables, memories, globals

unfoldable pub nulls : (count : ℕ) → List (Option ℕ)
nulls zero = []
nulls (suc count) = nulls count ++ None ∷ []

-- a table of function references: at least so many elements, all null
abbrev pub table_entry : Parts → List ℕ → Read Parts
table_entry parts left = then_read (byte left) (λ kind rest. if kind == 0x70
    then then_read (limits rest) (λ found rest. Ok (record parts { table = nulls found.0 }, rest))
    else Err faults.Type)

-- a memory grows to no more than 1,024 pages
abbrev pub most_pages : Option ℕ → ℕ
most_pages None = 1024
most_pages (Some most) = min most 1024

abbrev pub memory_entry : Parts → List ℕ → Read Parts
memory_entry parts left = then_read (limits left) (λ found rest.
    Ok (record parts { pages = found.0; max_pages = most_pages found.1 }, rest))

-- its type, whether it can be set, and its first value
abbrev pub global_entry : Parts → List ℕ → Read Parts
global_entry parts left = then_read (one_type left) (λ own rest. then_read (byte rest) (λ mutable rest.
    then_read (constant own rest) (λ value rest.
    Ok (record parts { globals = parts.globals ++ value ∷ [] }, rest))))

-- ---- exports

-- the function that is exported as `run`, among the module's own
abbrev pub with_export : Parts → (named : List ℕ) → (kind number : ℕ) → Parts
with_export parts named kind number = if bytes_eq named (codes "run") && kind == 0
    then record parts { entry = Some (number - length parts.imports) } else parts

abbrev pub export_entry : Parts → List ℕ → Read Parts
export_entry parts left = then_read (name left) (λ named rest. then_read (byte rest) (λ kind rest.
    then_read (u32 rest) (λ number rest. Ok (with_export parts named kind number, rest))))

-- ---- elements

-- Functions as elements of a table: the module's own, and behind them one for each import, which calls it.
abbrev pub callee : Parts → (number : ℕ) → ℕ
callee parts number = if nat_lt number (length parts.imports) then length parts.functions + number
    else number - length parts.imports

abbrev pub with_table : List (Option ℕ) → Parts → Parts
with_table table parts = record parts { table = table }

-- what stands in an element: the number of a function
abbrev pub function_element : Parts → List ℕ → Read (Option ℕ)
function_element parts left = then_read (u32 left) (λ number rest. Ok (Some (callee parts number), rest))

-- or an expression: ref.func or ref.null, and its end
abbrev pub ended_element : Read (Option ℕ) → Read (Option ℕ)
ended_element read = then_read read (λ element rest. then_read (byte rest) (λ last rest.
    if last == 0x0b then Ok (element, rest) else Err faults.Type))

abbrev pub expression : Parts → List ℕ → Read (Option ℕ)
expression parts left = then_read (byte left) (λ opcode rest.
    if opcode == 0xd2 then function_element parts rest
    else if opcode == 0xd0 then then_read (byte rest) (λ kind rest. Ok (None, rest))
    else Err faults.Type)

abbrev pub element_of : (flags : ℕ) → Parts → List ℕ → Read (Option ℕ)
element_of flags parts left = if flags == 4 then ended_element (expression parts left) else function_element parts left

-- elements are put into the table, one behind another, from a place on
abbrev pub placed_element : (flags : ℕ) → (Parts × ℕ) → List ℕ → Read (Parts × ℕ)
placed_element flags placed left = then_read (element_of flags placed.0 left) (λ element rest.
    Ok ((with_table (slice_set placed.0.table placed.1 element) placed.0, placed.1 + 1), rest))

-- A segment of flags 0 has a place and numbers of functions. One of flags 2 also has the table and the kind of element,
-- and one of flags 4 has expressions in place of numbers. A segment lies in the table whole, also an empty one.
abbrev pub table_number : (flags : ℕ) → List ℕ → Read ℕ
table_number flags left = if flags == 2 then u32 left else Ok (0, left)

abbrev pub element_kind : (flags : ℕ) → List ℕ → Read ℕ
element_kind flags left = if flags == 2 then byte left else Ok (0, left)

abbrev pub is_active : (flags : ℕ) → Bool
is_active flags = flags == 0 || (flags == 2 || flags == 4)

abbrev pub element_entry : Parts → List ℕ → Read Parts
element_entry parts left = then_read (u32 left) (λ flags rest. if is_active flags
    then then_read (table_number flags rest) (λ table rest. then_read (constant types.I32 rest) (λ first rest.
    then_read (element_kind flags rest) (λ kind rest. then_read (u32 rest) (λ count rest.
    if nat_le (first + count) (length parts.table)
    then then_read (over (placed_element flags) count (parts, first) rest) (λ done rest. Ok (done.0, rest))
    else Err faults.Segment))))
    else Err faults.Segment)

-- ---- bodies

abbrev pub around : Parts → Around
around parts = record {
  types = parts.types;
  first_types = parts.first_types;
  imports = parts.imports;
  functions = parts.functions;
}

abbrev pub with_body : Parts → (own parameters locals : ℕ) → List Instruction → Parts
with_body parts own parameters locals code = record parts {
  code = code;
  bodies = parts.bodies ++ record {
    start = length parts.code;
    parameters = parameters;
    locals = locals - parameters;
    function_type = slice_index parts.first_types own;
  } ∷ [];
}

-- The part must be read to its end.
abbrev pub all_of : {A : Type 0} → Read A → (rest : List ℕ) → Read A
all_of (Ok (x, [])) rest = Ok (x, rest)
all_of (Ok (x, b ∷ left)) rest = Err faults.Section
all_of (Err fault) rest = Err fault

-- its locals and its instructions
abbrev pub body_of : Parts → (own : ℕ) → Option Signature → List ℕ → Read Parts
body_of parts own None left = Err faults.Index
body_of parts own (Some has) left = then_read (locals_behind (length has.parameters) left) (λ locals rest.
    then_read (body (around parts) own locals parts.code rest) (λ code rest.
    Ok (with_body parts own (length has.parameters) locals code, rest)))

-- the body of the next function, and how long it is
abbrev pub body_entry : Parts → List ℕ → Read Parts
body_entry parts left = then_read (u32 left) (λ count rest. then_read (part rest count) (λ behind held.
    given (slice_get parts.functions (length parts.bodies)) (λ own.
    all_of (body_of parts own (slice_get parts.types own) held) behind)))

-- ---- data

-- bytes are put into the memory from a place on, all of them within its first size
abbrev pub with_data : (first : ℕ) → List ℕ → Parts → Parts
with_data first written parts = record parts {
  memory = put_at (parts.memory ++ zeros (first + length written - length parts.memory)) written first;
}

abbrev pub data_at : Parts → List ℕ → Read Parts
data_at parts left = then_read (constant types.I32 left) (λ first rest. then_read (u32 rest) (λ count rest.
    then_read (bytes rest count) (λ written rest. if nat_le (first + count) (parts.pages * 65536)
    then Ok (with_data first written parts, rest) else Err faults.Segment)))

-- flags 0; or 2, and the memory's number
abbrev pub data_entry : Parts → List ℕ → Read Parts
data_entry parts left = then_read (u32 left) (λ flags rest.
    if flags == 0 then data_at parts rest
    else if flags == 2 then then_read (u32 rest) (λ memory rest. data_at parts rest)
    else Err faults.Segment)

-- ---- sections

abbrev pub entry : (number : ℕ) → Parts → List ℕ → Read Parts
entry number parts left =
    if number == 1 then type_entry parts left
    else if number == 2 then import_entry parts left
    else if number == 3 then function_entry parts left
    else if number == 4 then table_entry parts left
    else if number == 5 then memory_entry parts left
    else if number == 6 then global_entry parts left
    else if number == 7 then export_entry parts left
    else if number == 9 then element_entry parts left
    else if number == 10 then body_entry parts left
    else if number == 11 then data_entry parts left
    else Err faults.Section

-- How many entries there are, and the entries. The number of data segments alone is a section too.
unfoldable pub content : (number : ℕ) → Parts → List ℕ → Read Parts
content number parts left =
    if number == 8 then Err faults.Start
    else if number == 12 then then_read (u32 left) (λ count rest. Ok (parts, rest))
    else then_read (u32 left) (λ count rest. over (entry number) count parts rest)

-- A section of number 0 says nothing of the module. Any other stands behind those of lower ranks.
abbrev pub behind : (last number : ℕ) → Option ℕ → Parts → (held rest : List ℕ) → Read (ℕ × Parts)
behind last number None parts held rest = Err faults.Section
behind last number (Some own) parts held rest = if nat_lt last own
    then then_read (all_of (content number parts held) rest) (λ parts rest. Ok ((own, parts), rest))
    else Err faults.Section

abbrev pub section : (last : ℕ) → Parts → List ℕ → Read (ℕ × Parts)
section last parts left = then_read (byte left) (λ number sized. then_read (u32 sized) (λ count behind_it.
    then_read (part behind_it count) (λ rest held.
    if number == 0 then then_read (name held) (λ text left. Ok ((last, parts), rest))
    else behind last number (rank number) parts held rest)))

-- sections up to the end; `most` is not less than how many there are
unfoldable pub sections : (most last : ℕ) → Parts → List ℕ → Read Parts
sections most last parts [] = Ok (parts, [])
sections zero last parts (b ∷ left) = Err faults.End
sections (suc most) last parts (b ∷ left) = then_read (section last parts (b ∷ left)) (λ found rest.
    sections most found.0 found.1 rest)

-- ---- modules

-- a function that calls an import with its own parameters
unfoldable pub pushes_locals : (count : ℕ) → List Instruction
pushes_locals zero = []
pushes_locals (suc count) = pushes_locals count ++ instruction.LocalGet count ∷ []

abbrev pub calls_import : HostFunction → List Instruction
calls_import function = pushes_locals (parameters_of function)
    ++ instruction.CallHost function ∷ instruction.Return 1 ∷ []

abbrev pub with_caller : Parts → HostFunction → (own : ℕ) → Parts
with_caller parts function own = record parts {
  code = parts.code ++ calls_import function;
  bodies = parts.bodies ++ record {
    start = length parts.code;
    parameters = parameters_of function;
    locals = 0;
    function_type = slice_index parts.first_types own;
  } ∷ [];
}

abbrev pub called_by : Option HostFunction → Option ℕ → Parts → Option Parts
called_by (Some function) (Some own) parts = Some (with_caller parts function own)
called_by function own parts = None

-- the callers of the first imports, one function for each
unfoldable pub callers : (count : ℕ) → Parts → Option Parts
callers zero parts = Some parts
callers (suc count) parts = option_and_then (λ done. called_by (slice_get parts.imports count)
    (slice_get parts.import_types count) done) (callers count parts)

abbrev pub contents : (entry : ℕ) → Parts → Contents
contents entry parts = record {
  code = parts.code;
  functions = parts.bodies;
  table = parts.table;
  globals = parts.globals;
  memory = parts.memory;
  pages = parts.pages;
  max_pages = parts.max_pages;
  entry = entry;
  imports = length parts.imports;
}

-- a module has a function `run`
abbrev pub whole : Parts → Option ℕ → Option Contents
whole parts None = None
whole parts (Some entry) = option_and_then (λ all. Some (contents entry all)) (callers (length parts.imports) parts)

abbrev pub module_of_parts : Read Parts → Option Contents
module_of_parts (Ok x) = whole x.0 x.0.entry
module_of_parts (Err fault) = None

-- The module of a file: the contents of its sections, if its types are valid.
unfoldable pub module_in : List ℕ → Option Contents
module_in file = if has_head file then module_of_parts (sections (length file) 0 no_parts (drop 8 file)) else None
