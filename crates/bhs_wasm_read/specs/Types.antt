-- The types of values and of functions, limits, constants, and the functions of the host by their names.
use Rattle.std.specs.Prelude.{ℕ, ◌==◌, ◌||◌, nat_lt, Bool, true, false, List, codes, bytes_eq}
use Rattle.std.specs.Prelude.{Option, Some, None, Result, Ok, Err, if◌then◌else◌}
use Rattle.bhs_wasm.specs.declared.instructions.HostFunction.{HostFunction}
use Rattle.bhs_wasm.specs.declared.instructions.HostFunction.TheVariants as imports
use Rattle.bhs_wasm_read.specs.declared.faults.FaultKind.{FaultKind}
use Rattle.bhs_wasm_read.specs.declared.faults.FaultKind.TheVariants as faults
use Rattle.bhs_wasm_read.specs.declared.opcodes.ValueType.{ValueType}
use Rattle.bhs_wasm_read.specs.declared.opcodes.ValueType.TheVariants as types
use Rattle.bhs_wasm_read.specs.declared.module_types.FunctionType.{FunctionType}
use Rattle.bhs_wasm_read.specs.Values.{Read, then_read, byte, u32, s32, s64, times}

-- i32, i64; agents do without f32 and f64
abbrev pub value_type : (byte : ℕ) → Result ValueType FaultKind
value_type byte =
    if byte == 0x7f then Ok types.I32
    else if byte == 0x7e then Ok types.I64
    else if byte == 0x7d || byte == 0x7c then Err faults.Float
    else Err faults.Type

-- The least number, and the most if the flag is 1. The most is not less than the least.
abbrev pub above : (flag least : ℕ) → List ℕ → Read (ℕ × Option ℕ)
above flag least left =
    if flag == 0 then Ok ((least, None), left)
    else if flag == 1 then then_read (u32 left) (λ most rest.
    if nat_lt most least then Err faults.Large else Ok ((least, Some most), rest))
    else Err faults.Type

abbrev pub limits : List ℕ → Read (ℕ × Option ℕ)
limits left = then_read (byte left) (λ flag rest. then_read (u32 rest) (λ least rest. above flag least rest))

abbrev pub is_type : ValueType → ValueType → Bool
is_type types.I32 types.I32 = true
is_type types.I64 types.I64 = true
is_type types.Unknown types.Unknown = true
is_type own wanted = false

-- a value of the type that is wanted, and the end of the expression
abbrev pub ended : (own wanted : ValueType) → Read ℕ → Read ℕ
ended own wanted read = then_read read (λ value rest.
    if is_type own wanted then then_read (byte rest) (λ last rest.
    if last == 0x0b then Ok (value, rest) else Err faults.Type)
    else Err faults.Type)

-- a constant expression: i32.const or i64.const
abbrev pub constant : (wanted : ValueType) → List ℕ → Read ℕ
constant wanted left = then_read (byte left) (λ opcode rest.
    if opcode == 0x41 then ended types.I32 wanted (s32 rest)
    else if opcode == 0x42 then ended types.I64 wanted (s64 rest)
    else if opcode == 0x43 || opcode == 0x44 then Err faults.Float
    else Err (faults.Opcode opcode))

abbrev pub host_function : (name : List ℕ) → Option HostFunction
host_function name =
    if bytes_eq name (codes "enter") then Some imports.Enter
    else if bytes_eq name (codes "look") then Some imports.Look
    else if bytes_eq name (codes "write") then Some imports.Write
    else if bytes_eq name (codes "depart") then Some imports.Depart
    else if bytes_eq name (codes "accuse") then Some imports.Accuse
    else if bytes_eq name (codes "leave") then Some imports.Leave
    else if bytes_eq name (codes "sleep") then Some imports.Sleep
    else if bytes_eq name (codes "ports") then Some imports.Ports
    else if bytes_eq name (codes "came") then Some imports.Came
    else if bytes_eq name (codes "board") then Some imports.Board
    else if bytes_eq name (codes "argument") then Some imports.Argument
    else None

-- ---- types of functions

-- a function's parameter types and result types
pub record Signature : Type 0 where
  pub parameters : List ValueType
  pub results : List ValueType

abbrev pub signature_of : FunctionType → Signature
signature_of own = record { parameters = own.parameters.items; results = own.results.items }

-- a decoded type, with the bytes after it
abbrev pub with_rest : {A : Type 0} → Result A FaultKind → List ℕ → Read A
with_rest (Ok value) rest = Ok (value, rest)
with_rest (Err fault) rest = Err fault

abbrev pub one_type : List ℕ → Read ValueType
one_type left = then_read (byte left) (λ own rest. with_rest (value_type own) rest)

abbrev pub value_types : List ℕ → Read (List ValueType)
value_types left = then_read (u32 left) (λ count rest. times one_type count rest)

-- 0x60, the types of the parameters, and those of the results
abbrev pub signature : List ℕ → Read Signature
signature left = then_read (byte left) (λ form rest. if form == 0x60
    then then_read (value_types rest) (λ parameters rest. then_read (value_types rest) (λ results rest.
    Ok (record { parameters = parameters; results = results }, rest)))
    else Err faults.Type)
