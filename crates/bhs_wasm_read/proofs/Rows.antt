-- The definitions on examples: the encodings of integers are those of the WebAssembly specification.
use Rattle.std.proofs.Common.{◌≡◌, ◌-◌, ◌^◌, true, false, [], ◌∷◌, Some, Ok, Err, refl}
use Rattle.bhs_wasm.specs.declared.operators.Unary.TheVariants as unary
use Rattle.bhs_wasm.specs.declared.operators.Binary.TheVariants as binary
use Rattle.bhs_wasm.specs.declared.instructions.AccessSize.TheVariants as sizes
use Rattle.bhs_wasm.specs.declared.instructions.Instruction.TheVariants as instruction
use Rattle.bhs_wasm_read.specs.declared.faults.FaultKind.TheVariants as faults
use Rattle.bhs_wasm_read.specs.declared.opcodes.ValueType.TheVariants as types
use Rattle.bhs_wasm_read.specs.Files.{has_head, are_sections}
use Rattle.bhs_wasm_read.specs.Opcodes.{numeric, found, loads, access, binop32, unop64, is_float}
use Rattle.bhs_wasm_read.specs.Types.{constant, limits}
use Rattle.bhs_wasm_read.specs.Values.{unsigned, signed, u32, s32}

three_row : unsigned (0x03 ∷ []) 8 ≡ Ok (3, [])
unfolding unsigned
three_row = refl

longer_three_row : unsigned (0x83 ∷ 0x00 ∷ 9 ∷ []) 8 ≡ Ok (3, 9 ∷ [])
unfolding unsigned
longer_three_row = refl

unused_bit_row : unsigned (0x83 ∷ 0x10 ∷ []) 8 ≡ Err faults.Number
unfolding unsigned
unused_bit_row = refl

minus_two_row : signed (0x7e ∷ []) 16 ≡ Ok (2 ^ 64 - 2, [])
unfolding signed
minus_two_row = refl

longer_minus_two_row : signed (0xfe ∷ 0xff ∷ 0x7f ∷ []) 16 ≡ Ok (2 ^ 64 - 2, [])
unfolding signed
longer_minus_two_row = refl

unused_sign_row : signed (0x83 ∷ 0x3e ∷ []) 8 ≡ Err faults.Number
unfolding signed
unused_sign_row = refl

other_sign_row : signed (0xff ∷ 0x7b ∷ []) 8 ≡ Err faults.Number
unfolding signed
other_sign_row = refl

cut_row : u32 (0x80 ∷ 0x80 ∷ []) ≡ Err faults.End
unfolding unsigned
cut_row = refl

most_row : u32 (0xff ∷ 0xff ∷ 0xff ∷ 0xff ∷ 0x0f ∷ []) ≡ Ok (2 ^ 32 - 1, [])
unfolding unsigned
most_row = refl

sixth_byte_row : u32 (0x80 ∷ 0x80 ∷ 0x80 ∷ 0x80 ∷ 0x80 ∷ 0x00 ∷ []) ≡ Err faults.Number
unfolding unsigned
sixth_byte_row = refl

least_row : s32 (0x80 ∷ 0x80 ∷ 0x80 ∷ 0x80 ∷ 0x78 ∷ []) ≡ Ok (2 ^ 31, [])
unfolding signed
least_row = refl

constant_row : constant types.I64 (0x42 ∷ 0x7f ∷ 0x0b ∷ []) ≡ Ok (2 ^ 64 - 1, [])
unfolding signed
constant_row = refl

limits_row : limits (1 ∷ 2 ∷ 3 ∷ []) ≡ Ok ((2, Some 3), [])
unfolding unsigned
limits_row = refl

shr_u_row : numeric 0x76 ≡ Some (binop32 binary.ShrU)
shr_u_row = refl

clz_row : numeric 0x79 ≡ Some (unop64 unary.Clz)
clz_row = refl

load_row : found 0x2c loads ≡ Some (access sizes.One types.I32 (Some (instruction.Unary32 unary.Extend8)))
load_row = refl

float_row : is_float 0x92 ≡ true
float_row = refl

-- a type, a function of it, which is exported as `run`, and its body
head_row : has_head (0 ∷ 97 ∷ 115 ∷ 109 ∷ 1 ∷ 0 ∷ 0 ∷ 0 ∷ 1 ∷ 4 ∷ []) ≡ true
head_row = refl

order_row : are_sections 4 0 (1 ∷ 4 ∷ 1 ∷ 0x60 ∷ 0 ∷ 0 ∷ 3 ∷ 2 ∷ 1 ∷ 0 ∷ 7 ∷ 7 ∷ 1 ∷ 3 ∷ 114 ∷ 117 ∷ 110 ∷ 0 ∷ 0
    ∷ 10 ∷ 4 ∷ 1 ∷ 2 ∷ 0 ∷ 0x0b ∷ []) ≡ true
unfolding unsigned are_sections
order_row = refl

disorder_row : are_sections 2 0 (3 ∷ 1 ∷ 0 ∷ 1 ∷ 1 ∷ 0 ∷ []) ≡ false
unfolding unsigned are_sections
disorder_row = refl
