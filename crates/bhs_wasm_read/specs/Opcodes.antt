-- The opcodes of integer instructions, loads and stores, with the specification's names in comments, and the instance's
-- instructions for them. An instance stores an i32 zero-extended.
use Rattle.std.specs.Prelude.{ℕ, ◌==◌, ◌||◌, ◌&&◌, nat_le, Bool, List, [], ◌∷◌, Option, Some, None, find}
use Rattle.bhs_wasm.specs.declared.operators.Unary.{Unary}
use Rattle.bhs_wasm.specs.declared.operators.Unary.TheVariants as unary
use Rattle.bhs_wasm.specs.declared.operators.Binary.{Binary}
use Rattle.bhs_wasm.specs.declared.operators.Binary.TheVariants as binary
use Rattle.bhs_wasm.specs.declared.instructions.AccessSize.{AccessSize}
use Rattle.bhs_wasm.specs.declared.instructions.AccessSize.TheVariants as sizes
use Rattle.bhs_wasm.specs.declared.instructions.Instruction.{Instruction}
use Rattle.bhs_wasm.specs.declared.instructions.Instruction.TheVariants as instruction
use Rattle.bhs_wasm_read.specs.declared.opcodes.ValueType.{ValueType}
use Rattle.bhs_wasm_read.specs.declared.opcodes.ValueType.TheVariants as types
use Rattle.bhs_wasm_read.specs.declared.opcodes.Numeric.{Numeric}
use Rattle.bhs_wasm_read.specs.declared.opcodes.Access.{Access}

-- what stands in a table behind an opcode
abbrev pub meaning : {A : Type 0} → Option (ℕ × A) → Option A
meaning None = None
meaning (Some row) = Some row.1

abbrev pub found : {A : Type 0} → (code : ℕ) → List (ℕ × A) → Option A
found code rows = meaning (find (λ row. row.0 == code) rows)

-- instructions of one operand, and of two of one type
abbrev pub one : Instruction → (operand gives : ValueType) → Numeric
one own operand gives = record { instruction = own; operands = 1; operand = operand; result = gives }

abbrev pub two : Instruction → (operand gives : ValueType) → Numeric
two own operand gives = record { instruction = own; operands = 2; operand = operand; result = gives }

abbrev pub unop32 : Unary → Numeric
unop32 op = one (instruction.Unary32 op) types.I32 types.I32

abbrev pub binop32 : Binary → Numeric
binop32 op = two (instruction.Binary32 op) types.I32 types.I32

abbrev pub unop64 : Unary → Numeric
unop64 op = one (instruction.Unary64 op) types.I64 types.I64

abbrev pub testop64 : Unary → Numeric
testop64 op = one (instruction.Unary64 op) types.I64 types.I32

abbrev pub binop64 : Binary → Numeric
binop64 op = two (instruction.Binary64 op) types.I64 types.I64

abbrev pub relop64 : Binary → Numeric
relop64 op = two (instruction.Binary64 op) types.I64 types.I32

abbrev pub numerics32 : List (ℕ × Numeric)
numerics32 =
    (0x45, unop32 unary.Eqz) ∷  -- i32.eqz
    (0x46, binop32 binary.Eq) ∷  -- i32.eq
    (0x47, binop32 binary.Ne) ∷  -- i32.ne
    (0x48, binop32 binary.LtS) ∷  -- i32.lt_s
    (0x49, binop32 binary.LtU) ∷  -- i32.lt_u
    (0x4a, binop32 binary.GtS) ∷  -- i32.gt_s
    (0x4b, binop32 binary.GtU) ∷  -- i32.gt_u
    (0x4c, binop32 binary.LeS) ∷  -- i32.le_s
    (0x4d, binop32 binary.LeU) ∷  -- i32.le_u
    (0x4e, binop32 binary.GeS) ∷  -- i32.ge_s
    (0x4f, binop32 binary.GeU) ∷  -- i32.ge_u
    (0x67, unop32 unary.Clz) ∷  -- i32.clz
    (0x68, unop32 unary.Ctz) ∷  -- i32.ctz
    (0x69, unop32 unary.Popcnt) ∷  -- i32.popcnt
    (0x6a, binop32 binary.Add) ∷  -- i32.add
    (0x6b, binop32 binary.Sub) ∷  -- i32.sub
    (0x6c, binop32 binary.Mul) ∷  -- i32.mul
    (0x6d, binop32 binary.DivS) ∷  -- i32.div_s
    (0x6e, binop32 binary.DivU) ∷  -- i32.div_u
    (0x6f, binop32 binary.RemS) ∷  -- i32.rem_s
    (0x70, binop32 binary.RemU) ∷  -- i32.rem_u
    (0x71, binop32 binary.And) ∷  -- i32.and
    (0x72, binop32 binary.Or) ∷  -- i32.or
    (0x73, binop32 binary.Xor) ∷  -- i32.xor
    (0x74, binop32 binary.Shl) ∷  -- i32.shl
    (0x75, binop32 binary.ShrS) ∷  -- i32.shr_s
    (0x76, binop32 binary.ShrU) ∷  -- i32.shr_u
    (0x77, binop32 binary.Rotl) ∷  -- i32.rotl
    (0x78, binop32 binary.Rotr) ∷  -- i32.rotr
    (0xc0, unop32 unary.Extend8) ∷  -- i32.extend8_s
    (0xc1, unop32 unary.Extend16) ∷ []  -- i32.extend16_s

abbrev pub numerics64 : List (ℕ × Numeric)
numerics64 =
    (0x50, testop64 unary.Eqz) ∷  -- i64.eqz
    (0x51, relop64 binary.Eq) ∷  -- i64.eq
    (0x52, relop64 binary.Ne) ∷  -- i64.ne
    (0x53, relop64 binary.LtS) ∷  -- i64.lt_s
    (0x54, relop64 binary.LtU) ∷  -- i64.lt_u
    (0x55, relop64 binary.GtS) ∷  -- i64.gt_s
    (0x56, relop64 binary.GtU) ∷  -- i64.gt_u
    (0x57, relop64 binary.LeS) ∷  -- i64.le_s
    (0x58, relop64 binary.LeU) ∷  -- i64.le_u
    (0x59, relop64 binary.GeS) ∷  -- i64.ge_s
    (0x5a, relop64 binary.GeU) ∷  -- i64.ge_u
    (0x79, unop64 unary.Clz) ∷  -- i64.clz
    (0x7a, unop64 unary.Ctz) ∷  -- i64.ctz
    (0x7b, unop64 unary.Popcnt) ∷  -- i64.popcnt
    (0x7c, binop64 binary.Add) ∷  -- i64.add
    (0x7d, binop64 binary.Sub) ∷  -- i64.sub
    (0x7e, binop64 binary.Mul) ∷  -- i64.mul
    (0x7f, binop64 binary.DivS) ∷  -- i64.div_s
    (0x80, binop64 binary.DivU) ∷  -- i64.div_u
    (0x81, binop64 binary.RemS) ∷  -- i64.rem_s
    (0x82, binop64 binary.RemU) ∷  -- i64.rem_u
    (0x83, binop64 binary.And) ∷  -- i64.and
    (0x84, binop64 binary.Or) ∷  -- i64.or
    (0x85, binop64 binary.Xor) ∷  -- i64.xor
    (0x86, binop64 binary.Shl) ∷  -- i64.shl
    (0x87, binop64 binary.ShrS) ∷  -- i64.shr_s
    (0x88, binop64 binary.ShrU) ∷  -- i64.shr_u
    (0x89, binop64 binary.Rotl) ∷  -- i64.rotl
    (0x8a, binop64 binary.Rotr) ∷  -- i64.rotr
    (0xa7, one (instruction.Unary64 unary.Wrap) types.I64 types.I32) ∷  -- i32.wrap_i64
    (0xac, one (instruction.Unary64 unary.Extend32) types.I32 types.I64) ∷  -- i64.extend_i32_s
    (0xad, one (instruction.Unary64 unary.Wrap) types.I32 types.I64) ∷  -- i64.extend_i32_u
    (0xc2, unop64 unary.Extend8) ∷  -- i64.extend8_s
    (0xc3, unop64 unary.Extend16) ∷  -- i64.extend16_s
    (0xc4, unop64 unary.Extend32) ∷ []  -- i64.extend32_s

abbrev pub either : Option Numeric → Option Numeric → Option Numeric
either None other = other
either (Some own) other = Some own

abbrev pub numeric : (code : ℕ) → Option Numeric
numeric code = either (found code numerics32) (found code numerics64)

-- how many bytes, the type of the value, and what extends the sign of a value that is loaded
abbrev pub access : AccessSize → ValueType → (extends : Option Instruction) → Access
access bytes value extends = record { bytes = bytes; value = value; extends = extends }

abbrev pub loads : List (ℕ × Access)
loads =
    (0x28, access sizes.Four types.I32 None) ∷  -- i32.load
    (0x29, access sizes.Eight types.I64 None) ∷  -- i64.load
    (0x2c, access sizes.One types.I32 (Some (instruction.Unary32 unary.Extend8))) ∷  -- i32.load8_s
    (0x2d, access sizes.One types.I32 None) ∷  -- i32.load8_u
    (0x2e, access sizes.Two types.I32 (Some (instruction.Unary32 unary.Extend16))) ∷  -- i32.load16_s
    (0x2f, access sizes.Two types.I32 None) ∷  -- i32.load16_u
    (0x30, access sizes.One types.I64 (Some (instruction.Unary64 unary.Extend8))) ∷  -- i64.load8_s
    (0x31, access sizes.One types.I64 None) ∷  -- i64.load8_u
    (0x32, access sizes.Two types.I64 (Some (instruction.Unary64 unary.Extend16))) ∷  -- i64.load16_s
    (0x33, access sizes.Two types.I64 None) ∷  -- i64.load16_u
    (0x34, access sizes.Four types.I64 (Some (instruction.Unary64 unary.Extend32))) ∷  -- i64.load32_s
    (0x35, access sizes.Four types.I64 None) ∷ []  -- i64.load32_u

abbrev pub stores : List (ℕ × Access)
stores =
    (0x36, access sizes.Four types.I32 None) ∷  -- i32.store
    (0x37, access sizes.Eight types.I64 None) ∷  -- i64.store
    (0x3a, access sizes.One types.I32 None) ∷  -- i32.store8
    (0x3b, access sizes.Two types.I32 None) ∷  -- i32.store16
    (0x3c, access sizes.One types.I64 None) ∷  -- i64.store8
    (0x3d, access sizes.Two types.I64 None) ∷  -- i64.store16
    (0x3e, access sizes.Four types.I64 None) ∷ []  -- i64.store32

-- the instructions on floating-point numbers: loads, stores and constants, comparisons, arithmetic, and conversions
abbrev pub is_from : (first last code : ℕ) → Bool
is_from first last code = nat_le first code && nat_le code last

abbrev pub is_float : (code : ℕ) → Bool
is_float code = is_from 0x2a 0x2b code || is_from 0x38 0x39 code || is_from 0x43 0x44 code || is_from 0x5b 0x66 code
    || is_from 0x8b 0xa6 code || is_from 0xa8 0xab code || is_from 0xae 0xbf code
