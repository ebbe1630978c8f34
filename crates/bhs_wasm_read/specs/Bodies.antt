-- The body of a function, compiled to flat instructions without blocks: a branch names the number of a label, and a
-- label the number of the instruction where execution continues. A loop's label names its first instruction, the label
-- of any other block the instruction after the block's end. The label of the first part of an `if` names the start of
-- the second part or, without a second part, the instruction after the end.
use Rattle.std.specs.Prelude.{ℕ, zero, suc, ◌+◌, ◌-◌, ◌==◌, ◌&&◌, not, Bool, true, false, nat_lt, nat_le}
use Rattle.std.specs.Prelude.{Option, Some, None, Ok, Err, List, [], ◌∷◌, ◌++◌, length, take, map, slice_get}
use Rattle.std.specs.Prelude.{slice_index, slice_set, if◌then◌else◌}
use Rattle.bhs_wasm.specs.States.{parameters_of}
use Rattle.bhs_wasm.specs.declared.instructions.HostFunction.{HostFunction}
use Rattle.bhs_wasm.specs.declared.instructions.Instruction.{Instruction}
use Rattle.bhs_wasm.specs.declared.instructions.Instruction.TheVariants as instruction
use Rattle.bhs_wasm_read.specs.declared.blocks.Block.{Block}
use Rattle.bhs_wasm_read.specs.declared.blocks.BlockKind.{BlockKind}
use Rattle.bhs_wasm_read.specs.declared.blocks.BlockKind.TheVariants as kinds
use Rattle.bhs_wasm_read.specs.declared.blocks.BlockType.{BlockType}
use Rattle.bhs_wasm_read.specs.declared.blocks.BlockType.TheVariants as block_types
use Rattle.bhs_wasm_read.specs.declared.blocks.Body.{Body}
use Rattle.bhs_wasm_read.specs.declared.blocks.Context.{Context}
use Rattle.bhs_wasm_read.specs.declared.faults.FaultKind.TheVariants as faults
use Rattle.bhs_wasm_read.specs.declared.opcodes.Numeric.{Numeric}
use Rattle.bhs_wasm_read.specs.declared.opcodes.Access.{Access}
use Rattle.bhs_wasm_read.specs.Opcodes.{found, numeric, loads, stores}
use Rattle.bhs_wasm_read.specs.Types.{Signature, signature_of, one_type}
use Rattle.bhs_wasm_read.specs.Values.{Read, then_read, over, byte, next, u32, s32, s64, index_of_type}

-- the context of a function body: the module's types, imports and functions
pub record Around : Type 0 where
  pub types : List Signature
  -- the number of the first type that is equal to each
  pub first_types : List ℕ
  pub imports : List HostFunction
  -- the types of the module's own functions
  pub functions : List ℕ

-- a body, as far as it is read
pub record Flow : Type 0 where
  pub around : Around
  -- how many locals there are, parameters among them, and how many operands
  pub locals : ℕ
  pub height : ℕ
  -- the innermost block, and those around it, the outermost first
  pub block : Block
  pub outer : List Block
  -- whether the body's own block has ended
  pub is_done : Bool
  -- the number of its first instruction
  pub start : ℕ
  pub code : List Instruction
  pub labels : List ℕ

abbrev pub around_of : Context → Around
around_of context = record {
  types = map signature_of context.types.now;
  first_types = context.first_types.now;
  imports = context.imports.now;
  functions = context.functions.now;
}

abbrev pub flow_of : Body → Flow
flow_of body = record {
  around = around_of body.context;
  locals = length body.locals.items;
  height = length body.operands.items;
  block = body.block;
  outer = body.outer.items;
  is_done = body.is_done;
  start = body.start;
  code = body.code.items;
  labels = body.labels.items;
}

-- ---- instructions, operands, labels

-- the number of the next instruction
abbrev pub place : Flow → ℕ
place flow = flow.start + length flow.code

-- whether code reaches what is read next
abbrev pub is_reached : Flow → Bool
is_reached flow = flow.block.is_entered && not flow.block.is_unreachable

abbrev pub with_code : List Instruction → Flow → Flow
with_code code flow = record flow { code = code }

-- one more instruction, where code reaches it: what no code reaches has no instructions
abbrev pub emitted : Instruction → Flow → Flow
emitted own flow = if is_reached flow then with_code (flow.code ++ own ∷ []) flow else flow

abbrev pub with_height : ℕ → Flow → Flow
with_height height flow = record flow { height = height }

abbrev pub raised : (count : ℕ) → Flow → Flow
raised count flow = with_height (flow.height + count) flow

-- an operand less. Where no code reaches, a block can pop operands that are not there.
abbrev pub one_less : (base height : ℕ) → ℕ
one_less base height = if nat_lt base height then height - 1 else height

unfoldable pub less : (base height count : ℕ) → ℕ
less base height zero = height
less base height (suc count) = one_less base (less base height count)

abbrev pub lowered : (count : ℕ) → Flow → Flow
lowered count flow = with_height (less flow.block.height flow.height count) flow

-- an instruction that pops and pushes so many operands
abbrev pub acts : (pops pushes : ℕ) → Instruction → Flow → Flow
acts pops pushes own flow = emitted own (raised pushes (lowered pops flow))

-- no code reaches what follows in this block
abbrev pub unreached : Flow → Flow
unreached flow = record flow { height = flow.block.height; block = record flow.block { is_unreachable = true } }

-- one more label
abbrev pub with_label : (to : ℕ) → Flow → Flow
with_label to flow = record flow { labels = flow.labels ++ to ∷ [] }

-- a label leads to the next instruction
abbrev pub label_here : (label : ℕ) → Flow → Flow
label_here label flow = record flow { labels = slice_set flow.labels label (place flow) }

-- ---- blocks

-- the types of a block's parameters and results: how many
abbrev pub parameters_in : Option Signature → ℕ
parameters_in None = 0
parameters_in (Some own) = length own.parameters

abbrev pub results_in : Option Signature → ℕ
results_in None = 0
results_in (Some own) = length own.results

abbrev pub takes : Around → BlockType → ℕ
takes around block_types.Empty = 0
takes around (block_types.Result value) = 0
takes around (block_types.Function own) = parameters_in (slice_get around.types own)

abbrev pub gives : Around → BlockType → ℕ
gives around block_types.Empty = 0
gives around (block_types.Result value) = 1
gives around (block_types.Function own) = results_in (slice_get around.types own)

-- 0x40, a type of values, or the number of a type of functions
abbrev pub block_type : List ℕ → Read BlockType
block_type left = then_read (next left) (λ first left.
    if first == 0x40 then then_read (byte left) (λ first rest. Ok (block_types.Empty, rest))
    else if nat_le 0x7c first && nat_le first 0x7f
    then then_read (one_type left) (λ value rest. Ok (block_types.Result value, rest))
    else then_read (index_of_type left) (λ own rest. Ok (block_types.Function own, rest)))

-- a block begins: its parameters are its first operands
abbrev pub opened : BlockKind → BlockType → Flow → Flow
opened kind own flow = record flow {
  height = less flow.block.height flow.height (takes flow.around own) + takes flow.around own;
  block = record {
    kind = kind;
    block_type = own;
    height = less flow.block.height flow.height (takes flow.around own);
    is_entered = is_reached flow;
    is_unreachable = false;
    label = length flow.labels;
  };
  outer = flow.outer ++ flow.block ∷ [];
  labels = flow.labels ++ place flow ∷ [];
}

-- an `if` jumps to its second part if the value is 0
abbrev pub opened_if : BlockType → Flow → Flow
opened_if own flow = opened (kinds.If (length flow.labels)) own
    (emitted (instruction.JumpIfZero (length flow.labels)) (with_label (place flow) (lowered 1 flow)))

-- the second part of an `if`: the first jumps over it
abbrev pub begun_else : (label : ℕ) → Flow → Flow
begun_else label flow = record (label_here label (emitted (instruction.Jump flow.block.label) flow)) {
  height = flow.block.height + takes flow.around flow.block.block_type;
  block = record flow.block { kind = kinds.Block; is_unreachable = false };
}

abbrev pub gone_on : BlockKind → Flow → Option Flow
gone_on (kinds.If label) flow = Some (begun_else label flow)
gone_on kind flow = None

-- the labels that lead to the end of a block
abbrev pub ended_labels : BlockKind → (label : ℕ) → Flow → Flow
ended_labels kinds.Function label flow = label_here label flow
ended_labels kinds.Block label flow = label_here label flow
ended_labels kinds.Loop label flow = flow
ended_labels (kinds.If second) label flow = label_here second (label_here label flow)

-- the block around it goes on, with the results as operands
abbrev pub left_to : Option Block → Flow → Flow
left_to None flow = record flow {
  height = flow.block.height;
  is_done = true;
  code = flow.code ++ instruction.Return (gives flow.around flow.block.block_type) ∷ [];
}
left_to (Some around) flow = record flow {
  height = flow.block.height + gives flow.around flow.block.block_type;
  block = around;
  outer = take (length flow.outer - 1) flow.outer;
}

abbrev pub closed : Flow → Flow
closed flow = left_to (slice_get flow.outer (length flow.outer - 1))
    (ended_labels flow.block.kind flow.block.label flow)

-- ---- branches

-- the block that a branch out of this many blocks leads to
abbrev pub target : (depth : ℕ) → Flow → Option Block
target depth flow = if depth == 0 then Some flow.block
    else if nat_le depth (length flow.outer) then slice_get flow.outer (length flow.outer - depth) else None

-- how many values a branch to a block takes along
abbrev pub arity : Around → BlockKind → BlockType → ℕ
arity around kinds.Loop own = takes around own
arity around kind own = gives around own

-- A branch keeps these values, and cuts the operands to those that were there when its block began. A branch out of the
-- body returns.
abbrev pub branch_to : BlockKind → (label keep height : ℕ) → Instruction
branch_to kinds.Function label keep height = instruction.Return keep
branch_to kind label keep height = instruction.Branch label keep height

abbrev pub branched_to : Block → (keep : ℕ) → Flow → Flow
branched_to block keep flow = acts keep keep (branch_to block.kind block.label keep (flow.locals + block.height)) flow

abbrev pub branched_out : Option Block → Flow → Option Flow
branched_out None flow = None
branched_out (Some block) flow = Some (branched_to block (arity flow.around block.kind block.block_type) flow)

abbrev pub branched : (depth : ℕ) → Flow → Option Flow
branched depth flow = branched_out (target depth flow) flow

-- Branches unless the value is 0. Flat code has no conditional return, so a jump skips the return.
abbrev pub branched_if_to : BlockKind → (label keep height : ℕ) → Flow → Flow
branched_if_to kinds.Function label keep height flow = emitted (instruction.Return keep)
    (emitted (instruction.JumpIfZero (length flow.labels)) (with_label (place flow + 2) flow))
branched_if_to kind label keep height flow = emitted (instruction.BranchIf label keep height) flow

abbrev pub branched_if_out : Option Block → Flow → Option Flow
branched_if_out None flow = None
branched_if_out (Some block) flow = let keep = arity flow.around block.kind block.block_type in
    Some (branched_if_to block.kind block.label keep (flow.locals + block.height) (raised keep (lowered keep flow)))

abbrev pub branched_if : (depth : ℕ) → Flow → Option Flow
branched_if depth flow = branched_if_out (target depth flow) (lowered 1 flow)

-- an optional flow with the remaining bytes
abbrev pub with_flow : Option Flow → List ℕ → Read Flow
with_flow None rest = Err faults.Index
with_flow (Some flow) rest = Ok (flow, rest)

abbrev pub one_branch : Flow → List ℕ → Read Flow
one_branch flow left = then_read (u32 left) (λ depth rest. with_flow (branched depth flow) rest)

-- a branch table: branches to choose from, and a default branch
abbrev pub branch_table : Flow → List ℕ → Read Flow
branch_table flow left = then_read (u32 left) (λ count rest. then_read
    (over one_branch (count + 1) (emitted (instruction.BranchTable count) (lowered 1 flow)) rest)
    (λ flow rest. Ok (unreached flow, rest)))

-- a branch out of the function's body
abbrev pub unreached_if : Option Flow → Option Flow
unreached_if None = None
unreached_if (Some flow) = Some (unreached flow)

abbrev pub left_body : Flow → Option Flow
left_body flow = unreached_if (branched (length flow.outer) flow)

-- ---- calls

abbrev pub called : Option ℕ → (function : ℕ) → Flow → Option Flow
called None function flow = None
called (Some own) function flow = Some (acts (takes flow.around (block_types.Function own))
    (gives flow.around (block_types.Function own)) (instruction.Call function) flow)

-- functions that are imported have the lowest numbers
abbrev pub called_either : Option HostFunction → (function : ℕ) → Flow → Option Flow
called_either (Some import) function flow = Some (acts (parameters_of import) 1 (instruction.CallHost import) flow)
called_either None function flow = let own = function - length flow.around.imports in
    called (slice_get flow.around.functions own) own flow

abbrev pub called_indirect : (own : ℕ) → Option ℕ → Flow → Option Flow
called_indirect own None flow = None
called_indirect own (Some first) flow = Some (acts (takes flow.around (block_types.Function own))
    (gives flow.around (block_types.Function own)) (instruction.CallIndirect first) (lowered 1 flow))

-- ---- instructions

-- where two of three are chosen by a value
abbrev pub selected : Flow → Flow
selected flow = acts 3 1 instruction.Select flow

-- the memory that an instruction names is number 0
abbrev pub memory_zero : List ℕ → Read ℕ
memory_zero left = then_read (byte left) (λ number rest. if number == 0 then Ok (0, rest) else Err faults.Index)

abbrev pub bulk : Flow → (number : ℕ) → List ℕ → Read Flow
bulk flow number left =
    if number == 10
    then then_read (memory_zero left) (λ to left. then_read (memory_zero left) (λ from rest.
    Ok (acts 3 0 instruction.MemoryCopy flow, rest)))
    else if number == 11
    then then_read (memory_zero left) (λ memory rest. Ok (acts 3 0 instruction.MemoryFill flow, rest))
    else Err (faults.Opcode number)

-- the alignment that an access assumes says nothing; its offset does
abbrev pub offset : List ℕ → Read ℕ
offset left = then_read (u32 left) (λ alignment rest. u32 rest)

abbrev pub extended : Option Instruction → Flow → Flow
extended None flow = flow
extended (Some extends) flow = emitted extends flow

abbrev pub loads_it : Access → Flow → List ℕ → Read Flow
loads_it own flow left = then_read (offset left) (λ offset rest.
    Ok (extended own.extends (acts 1 1 (instruction.Load own.bytes offset) flow), rest))

abbrev pub stores_it : Access → Flow → List ℕ → Read Flow
stores_it own flow left = then_read (offset left) (λ offset rest.
    Ok (acts 2 0 (instruction.Store own.bytes offset) flow, rest))

abbrev pub store_of : Option Access → Flow → List ℕ → Read Flow
store_of None flow left = Err faults.Type
store_of (Some own) flow left = stores_it own flow left

abbrev pub access_of : Option Access → (code : ℕ) → Flow → List ℕ → Read Flow
access_of None code flow left = store_of (found code stores) flow left
access_of (Some own) code flow left = loads_it own flow left

abbrev pub numeric_of : Option Numeric → (code : ℕ) → Flow → List ℕ → Read Flow
numeric_of None code flow left = access_of (found code loads) code flow left
numeric_of (Some own) code flow left = Ok (acts own.operands 1 own.instruction flow, left)

abbrev pub control : (opcode : ℕ) → Flow → List ℕ → Read Flow
control opcode flow left =
    if opcode == 0x02 then then_read (block_type left) (λ own rest. Ok (opened kinds.Block own flow, rest))
    else if opcode == 0x03 then then_read (block_type left) (λ own rest. Ok (opened kinds.Loop own flow, rest))
    else if opcode == 0x04 then then_read (block_type left) (λ own rest. Ok (opened_if own flow, rest))
    else if opcode == 0x05 then with_flow (gone_on flow.block.kind flow) left
    else if opcode == 0x0b then Ok (closed flow, left)
    else if opcode == 0x0c
    then then_read (one_branch flow left) (λ flow rest. Ok (unreached flow, rest))
    else if opcode == 0x0d then then_read (u32 left) (λ depth rest. with_flow (branched_if depth flow) rest)
    else if opcode == 0x0e then branch_table flow left
    else if opcode == 0x0f
    then with_flow (left_body flow) left
    else if opcode == 0x10 then then_read (u32 left) (λ function rest.
    with_flow (called_either (slice_get flow.around.imports function) function flow) rest)
    else if opcode == 0x11 then then_read (u32 left) (λ own rest. then_read (u32 rest) (λ table rest.
    with_flow (called_indirect own (slice_get flow.around.first_types own) flow) rest))
    else Err (faults.Opcode opcode)

abbrev pub plain : (opcode : ℕ) → Flow → List ℕ → Read Flow
plain opcode flow left =
    if opcode == 0x1a then Ok (acts 1 0 instruction.Drop flow, left)
    else if opcode == 0x1b then Ok (selected flow, left)
    else if opcode == 0x1c then then_read (u32 left) (λ count rest. then_read (one_type rest) (λ own rest.
    Ok (selected flow, rest)))
    else if opcode == 0x20 then then_read (u32 left)
    (λ local rest. Ok (acts 0 1 (instruction.LocalGet local) flow, rest))
    else if opcode == 0x21 then then_read (u32 left)
    (λ local rest. Ok (acts 1 0 (instruction.LocalSet local) flow, rest))
    else if opcode == 0x22 then then_read (u32 left)
    (λ local rest. Ok (acts 1 1 (instruction.LocalTee local) flow, rest))
    else if opcode == 0x23
    then then_read (u32 left) (λ global rest. Ok (acts 0 1 (instruction.GlobalGet global) flow, rest))
    else if opcode == 0x24
    then then_read (u32 left) (λ global rest. Ok (acts 1 0 (instruction.GlobalSet global) flow, rest))
    else if opcode == 0x3f then then_read (memory_zero left)
    (λ memory rest. Ok (acts 0 1 instruction.MemorySize flow, rest))
    else if opcode == 0x40 then then_read (memory_zero left)
    (λ memory rest. Ok (acts 1 1 instruction.MemoryGrow flow, rest))
    else if opcode == 0x41 then then_read (s32 left) (λ value rest. Ok (acts 0 1 (instruction.Const value) flow, rest))
    else if opcode == 0x42 then then_read (s64 left) (λ value rest. Ok (acts 0 1 (instruction.Const value) flow, rest))
    else if opcode == 0xfc then then_read (u32 left) (λ number rest. bulk flow number rest)
    else numeric_of (numeric opcode) opcode flow left

-- the instruction that stands next
abbrev pub by_opcode : Flow → (opcode : ℕ) → List ℕ → Read Flow
by_opcode flow opcode left =
    if opcode == 0x00 then Ok (unreached (emitted instruction.Unreachable flow), left)
    else if opcode == 0x01 then Ok (flow, left)
    else if nat_le 0x02 opcode && nat_le opcode 0x11 then control opcode flow left
    else plain opcode flow left

unfoldable pub instruction_of : Flow → List ℕ → Read Flow
instruction_of flow left = then_read (byte left) (λ opcode rest. by_opcode flow opcode rest)

-- instructions up to the end of the body; `most` is not less than how many there are
unfoldable pub instructions : (most : ℕ) → Flow → List ℕ → Read Flow
instructions zero flow left = Err faults.Block
instructions (suc most) flow left = then_read (instruction_of flow left) (λ flow rest.
    if flow.is_done then Ok (flow, rest) else instructions most flow rest)

-- ---- bodies

-- an instruction with the place that its label leads to
abbrev pub led : (labels : List ℕ) → Instruction → Instruction
led labels (instruction.Jump to) = instruction.Jump (slice_index labels to)
led labels (instruction.JumpIfZero to) = instruction.JumpIfZero (slice_index labels to)
led labels (instruction.Branch to keep height) = instruction.Branch (slice_index labels to) keep height
led labels (instruction.BranchIf to keep height) = instruction.BranchIf (slice_index labels to) keep height
led labels own = own

-- a body of this type begins
abbrev pub begun : Around → (own locals start : ℕ) → Flow
begun around own locals start = record {
  around = around;
  locals = locals;
  height = 0;
  block = record {
    kind = kinds.Function;
    block_type = block_types.Function own;
    height = 0;
    is_entered = true;
    is_unreachable = false;
    label = 0;
  };
  outer = [];
  is_done = false;
  start = start;
  code = [];
  labels = 0 ∷ [];
}

-- appends the function's instructions to earlier ones
abbrev pub appended : (code : List Instruction) → Flow → List Instruction
appended code flow = code ++ map (led flow.labels) flow.code

abbrev pub body : Around → (own locals : ℕ) → (code : List Instruction) → List ℕ → Read (List Instruction)
body around own locals code left = then_read (instructions (length left) (begun around own locals (length code)) left)
    (λ flow rest. Ok (appended code flow, rest))

-- groups of locals of one type: how many there are, and the type
abbrev pub group : (locals : ℕ) → List ℕ → Read ℕ
group locals left =
    then_read (u32 left) (λ count rest. then_read (one_type rest) (λ own rest. Ok (locals + count, rest)))

abbrev pub locals_behind : (parameters : ℕ) → List ℕ → Read ℕ
locals_behind parameters left = then_read (u32 left) (λ groups rest. over group groups parameters rest)
