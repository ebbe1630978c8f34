-- The definitions on examples: a function of a module that clang made, and a module by hand.
use Rattle.std.proofs.Common.{◌≡◌, ℕ, List, [], ◌∷◌, Some, None, Ok, refl}
use Rattle.bhs_wasm.specs.declared.operators.Binary.TheVariants as binary
use Rattle.bhs_wasm.specs.declared.instructions.AccessSize.TheVariants as sizes
use Rattle.bhs_wasm.specs.declared.instructions.HostFunction.TheVariants as imports
use Rattle.bhs_wasm.specs.declared.instructions.Instruction.TheVariants as instruction
use Rattle.bhs_wasm_read.specs.declared.opcodes.ValueType.TheVariants as types
use Rattle.bhs_wasm_read.specs.Bodies.{Around, body, instruction_of, instructions, less}
use Rattle.bhs_wasm_read.specs.Modules.{Parts, no_parts, sections, content, nulls, callers, pushes_locals}
use Rattle.bhs_wasm_read.specs.Values.{unsigned, signed, over}

-- eight imports, and functions of types 4, 4, 5 and 2, as in ring.wasm
abbrev ring : Around
ring = record {
  types = record { parameters = types.I32 ∷ []; results = types.I32 ∷ [] }
      ∷ record { parameters = []; results = types.I32 ∷ [] }
      ∷ record { parameters = types.I32 ∷ types.I32 ∷ []; results = types.I32 ∷ [] }
      ∷ record { parameters = types.I32 ∷ types.I32 ∷ types.I32 ∷ types.I32 ∷ []; results = types.I32 ∷ [] }
      ∷ record { parameters = []; results = [] }
      ∷ record { parameters = types.I32 ∷ types.I32 ∷ types.I32 ∷ []; results = types.I32 ∷ [] } ∷ [];
  first_types = 0 ∷ 1 ∷ 2 ∷ 3 ∷ 4 ∷ 5 ∷ [];
  imports = imports.Argument ∷ imports.Enter ∷ imports.Accuse ∷ imports.Depart ∷ imports.Came ∷ imports.Leave
      ∷ imports.Board ∷ imports.Write ∷ [];
  functions = 4 ∷ 4 ∷ 5 ∷ 2 ∷ [];
}

-- its last function writes a number in decimal
abbrev digits : List ℕ
digits = 0x02 ∷ 0x40 ∷ 0x20 ∷ 0x01 ∷ 0x41 ∷ 0x0a ∷ 0x48 ∷ 0x0d ∷ 0x00 ∷ 0x20 ∷ 0x00 ∷ 0x20 ∷ 0x01 ∷ 0x41 ∷ 0x0a ∷ 0x6d
    ∷ 0x10 ∷ 0x8b ∷ 0x80 ∷ 0x80 ∷ 0x80 ∷ 0x00 ∷ 0x21 ∷ 0x00 ∷ 0x0b ∷ 0x20 ∷ 0x00 ∷ 0x20 ∷ 0x01 ∷ 0x41 ∷ 0x0a ∷ 0x6f
    ∷ 0x41 ∷ 0x30 ∷ 0x6a ∷ 0x3a ∷ 0x00 ∷ 0x00 ∷ 0x20 ∷ 0x00 ∷ 0x41 ∷ 0x01 ∷ 0x6a ∷ 0x0b ∷ []

digits_row : body ring 2 2 [] digits ≡ Ok (
  instruction.LocalGet 1 ∷ instruction.Const 10 ∷ instruction.Binary32 binary.LtS ∷ instruction.BranchIf 10 0 2
      ∷ instruction.LocalGet 0 ∷ instruction.LocalGet 1 ∷ instruction.Const 10 ∷ instruction.Binary32 binary.DivS
      ∷ instruction.Call 3 ∷ instruction.LocalSet 0
      ∷ instruction.LocalGet 0 ∷ instruction.LocalGet 1 ∷ instruction.Const 10 ∷ instruction.Binary32 binary.RemS
      ∷ instruction.Const 48 ∷ instruction.Binary32 binary.Add ∷ instruction.Store sizes.One 0
      ∷ instruction.LocalGet 0 ∷ instruction.Const 1 ∷ instruction.Binary32 binary.Add ∷ instruction.Return 1 ∷ [],
  [],
)
unfolding unsigned signed over less instruction_of instructions
digits_row = refl

-- loop: local.get 0, br_if 1 (of no values), local.get 0, if: br 1 (the loop), else: br 3 (the function), end, end, end
loops_row : body ring 4 1 (instruction.Drop ∷ []) (0x02 ∷ 0x40 ∷ 0x03 ∷ 0x40 ∷ 0x20 ∷ 0x00 ∷ 0x0d ∷ 0x01 ∷ 0x20 ∷ 0x00
    ∷ 0x04 ∷ 0x40 ∷ 0x0c ∷ 0x01 ∷ 0x05 ∷ 0x0c ∷ 0x03 ∷ 0x0b ∷ 0x0b ∷ 0x0b ∷ 0x0b ∷ []) ≡ Ok (
      instruction.Drop
          ∷ instruction.LocalGet 0 ∷ instruction.BranchIf 7 0 1
          ∷ instruction.LocalGet 0 ∷ instruction.JumpIfZero 6 ∷ instruction.Branch 1 0 1 ∷ instruction.Return 0
          ∷ instruction.Return 0 ∷ [],
      [],
    )
unfolding unsigned signed over less instruction_of instructions
loops_row = refl

-- () -> i32, () -> (); an import of the first is read
abbrev imported : Parts
imported = record no_parts {
  types = record { parameters = []; results = types.I32 ∷ [] } ∷ record { parameters = []; results = [] } ∷ [];
  first_types = 0 ∷ 1 ∷ [];
  imports = imports.Look ∷ [];
  import_types = 0 ∷ [];
}

-- Equal types share the number of the first one.
types_row : sections 9 0 no_parts (1 ∷ 12 ∷ 3 ∷ 0x60 ∷ 0 ∷ 1 ∷ 0x7f ∷ 0x60 ∷ 0 ∷ 0 ∷ 0x60 ∷ 0 ∷ 1 ∷ 0x7f ∷ []) ≡ Ok (
  record no_parts {
    types = record { parameters = []; results = types.I32 ∷ [] } ∷ record { parameters = []; results = [] }
        ∷ record { parameters = []; results = types.I32 ∷ [] } ∷ [];
    first_types = 0 ∷ 1 ∷ 0 ∷ [];
  },
  [],
)
unfolding unsigned over sections content
types_row = refl

-- a function of the second type; a table of two, whose second element is arena.look; the function: i32.const 1,
-- call_indirect of the first type, drop
parts_row : sections 99 2 imported (3 ∷ 2 ∷ 1 ∷ 1
    ∷ 4 ∷ 4 ∷ 1 ∷ 0x70 ∷ 0 ∷ 2
    ∷ 9 ∷ 7 ∷ 1 ∷ 0 ∷ 0x41 ∷ 1 ∷ 0x0b ∷ 1 ∷ 0
    ∷ 10 ∷ 10 ∷ 1 ∷ 8 ∷ 0 ∷ 0x41 ∷ 1 ∷ 0x11 ∷ 0 ∷ 0 ∷ 0x1a ∷ 0x0b ∷ []) ≡ Ok (
      record imported {
        functions = 1 ∷ [];
        table = None ∷ Some 1 ∷ [];
        code = instruction.Const 1 ∷ instruction.CallIndirect 0 ∷ instruction.Drop ∷ instruction.Return 0 ∷ [];
        bodies = record { start = 0; parameters = 0; locals = 0; function_type = 1 } ∷ [];
      },
      [],
    )
unfolding unsigned signed over less instruction_of instructions sections content nulls
parts_row = refl

-- behind it stands the function that calls arena.look
callers_row : callers 1 (record imported {
  code = instruction.Drop ∷ [];
  bodies = record { start = 0; parameters = 0; locals = 0; function_type = 1 } ∷ [];
}) ≡ Some (record imported {
  code = instruction.Drop ∷ instruction.CallHost imports.Look ∷ instruction.Return 1 ∷ [];
  bodies = record { start = 0; parameters = 0; locals = 0; function_type = 1 }
      ∷ record { start = 1; parameters = 0; locals = 0; function_type = 0 } ∷ [];
})
unfolding callers pushes_locals
callers_row = refl
