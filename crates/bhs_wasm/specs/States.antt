-- The state of an instance, and the small-step semantics of each instruction.
use Rattle.std.specs.Prelude.{ℕ, zero, suc, ◌+◌, ◌-◌, ◌*◌, ◌/◌, ◌%◌, ◌^◌, ◌==◌, ◌≡◌, Bool, true, false, nat_lt, nat_le}
use Rattle.std.specs.Prelude.{Option, Some, None, List, [], ◌∷◌, ◌++◌, length, take, drop, slice_get}
use Rattle.std.specs.Prelude.{slice_index, slice_set, if◌then◌else◌, ◌&&◌, Result, IfOk}
use Rattle.std.specs.Int.{w32, w64, to_le_bytes}
use Rattle.std.specs.declared.alloc.AllocError.{AllocError}
use Rattle.bhs_wasm.specs.declared.operators.Unary.{Unary}
use Rattle.bhs_wasm.specs.declared.operators.Binary.{Binary}
use Rattle.bhs_wasm.specs.declared.instructions.HostFunction.{HostFunction}
use Rattle.bhs_wasm.specs.declared.instructions.HostFunction.TheVariants as imports
use Rattle.bhs_wasm.specs.declared.instructions.AccessSize.{AccessSize}
use Rattle.bhs_wasm.specs.declared.instructions.AccessSize.TheVariants as sizes
use Rattle.bhs_wasm.specs.declared.instructions.Instruction.{Instruction}
use Rattle.bhs_wasm.specs.declared.instructions.Instruction.TheVariants as instruction
use Rattle.bhs_wasm.specs.declared.modules.Function.{Function}
use Rattle.bhs_wasm.specs.declared.interpreters.Frame.{Frame}
use Rattle.bhs_wasm.specs.declared.interpreters.Progress.{Progress}
use Rattle.bhs_wasm.specs.declared.interpreters.Progress.TheVariants as progresses
use Rattle.bhs_wasm.specs.declared.interpreters.Interpreter.{Interpreter}
use Rattle.bhs_wasm.specs.Contents.{Contents}
use Rattle.bhs_wasm.specs.Integers.{unary, binary}

-- the whole state of an instance
pub record State : Type 0 where
  -- the number of the next instruction
  pub program_counter : ℕ
  -- where the locals of its function begin on the stack
  pub base : ℕ
  -- of the callers
  pub frames : List Frame
  -- locals and operands, the top last
  pub stack : List ℕ
  pub globals : List ℕ
  -- the first bytes of the memory; all others are zero
  pub memory : List ℕ
  -- how many pages the memory has
  pub pages : ℕ
  -- what the last reply says: the ports of the node, the port of arrival and the text of the whiteboard
  pub ports : ℕ
  pub came : ℕ
  pub board : List ℕ
  pub arguments : List ℕ

abbrev pub state_of : Interpreter → State
state_of interpreter = record {
  program_counter = interpreter.program_counter;
  base = interpreter.base;
  frames = interpreter.frames.items;
  stack = interpreter.stack.items;
  globals = interpreter.globals.items;
  memory = interpreter.memory.items;
  pages = interpreter.pages;
  ports = interpreter.last_reply.ports;
  came = interpreter.last_reply.came;
  board = interpreter.last_reply.board.items;
  arguments = interpreter.arguments.items;
}

-- what comes of an instruction
pub data StepResult : Type 0 where
  Continues : State → StepResult
  -- the module waits in a command
  Waits : HostFunction → State → StepResult
  -- the function that was called first has returned
  Ends : StepResult
  Traps : StepResult

-- The interpreter's progress and its new state agree with this result.
abbrev pub IsStepResult : StepResult → Progress → State → Type 0
IsStepResult (Continues after) progress new = (progress ≡ progresses.Continues) × (new ≡ after)
IsStepResult (Waits function after) progress new = (progress ≡ progresses.Waits function) × (new ≡ after)
IsStepResult Ends progress new = progress ≡ progresses.Ends
IsStepResult Traps progress new = progress ≡ progresses.Traps

-- the same, unless the memory of the program runs out
abbrev pub Gives : StepResult → Result Progress AllocError → State → Type 0
Gives outcome result new = IfOk result (λ progress. IsStepResult outcome progress new)

-- the lower 32 bits
abbrev pub low : ℕ → ℕ
low value = value % 2 ^ 32

abbrev pub jumped : (to : ℕ) → State → State
jumped to state = record state { program_counter = to }

abbrev pub next : State → State
next state = jumped ((state.program_counter + 1) % 2 ^ 32) state

abbrev pub with_stack : List ℕ → State → State
with_stack stack state = record state { stack = stack }

-- pops the value on top of the stack
abbrev pub top : State → Option ℕ
top state = slice_get state.stack (length state.stack - 1)

abbrev pub below : State → State
below state = with_stack (take (length state.stack - 1) state.stack) state

-- the i32 operand at a depth of the stack, where depth 0 is the top
abbrev pub operand : (depth : ℕ) → State → ℕ
operand depth state = if nat_lt depth (length state.stack)
    then low (slice_index state.stack (length state.stack - 1 - depth)) else 0

-- applies a function to a value, or traps without a value
abbrev pub given : Option ℕ → (ℕ → StepResult) → StepResult
given None then_do = Traps
given (Some value) then_do = then_do value

-- a trap, if a test fails
abbrev pub checked : Bool → StepResult → StepResult
checked true outcome = outcome
checked false outcome = Traps

-- the most values on the stack, and the most frames
abbrev pub max_values : ℕ
max_values = 65536

abbrev pub max_frames : ℕ
max_frames = 4096

-- a value is pushed, or the stack is full and it traps
abbrev pub pushed : ℕ → State → StepResult
pushed value state = checked (nat_lt (length state.stack) max_values)
    (Continues (next (with_stack (state.stack ++ value ∷ []) state)))

-- ---- numeric, parametric and variable instructions

abbrev pub do_unary32 : Unary → State → StepResult
do_unary32 op state = given (top state) (λ a. pushed (unary w32 op (low a)) (below state))

abbrev pub do_unary64 : Unary → State → StepResult
do_unary64 op state = given (top state) (λ a. pushed (unary w64 op a) (below state))

abbrev pub do_binary32 : Binary → State → StepResult
do_binary32 op state = given (top state) (λ b. given (top (below state)) (λ a.
    given (binary w32 op (low a) (low b)) (λ x. pushed x (below (below state)))))

abbrev pub do_binary64 : Binary → State → StepResult
do_binary64 op state = given (top state) (λ b. given (top (below state)) (λ a.
    given (binary w64 op a b) (λ x. pushed x (below (below state)))))

abbrev pub do_drop : State → StepResult
do_drop state = given (top state) (λ a. Continues (next (below state)))

abbrev pub do_select : State → StepResult
do_select state = given (top state) (λ chosen. given (top (below state)) (λ b. given (top (below (below state))) (λ a.
    pushed (if low chosen == 0 then b else a) (below (below (below state))))))

abbrev pub do_local_get : (local : ℕ) → State → StepResult
do_local_get local state = given (slice_get state.stack (state.base + local)) (λ value. pushed value state)

-- a value is written to a local
abbrev pub with_local : (local value : ℕ) → State → StepResult
with_local local value state = checked (nat_lt (state.base + local) (length state.stack))
    (Continues (next (with_stack (slice_set state.stack (state.base + local) value) state)))

abbrev pub do_local_set : (local : ℕ) → State → StepResult
do_local_set local state = given (top state) (λ value. with_local local value (below state))

abbrev pub do_local_tee : (local : ℕ) → State → StepResult
do_local_tee local state = given (top state) (λ value. with_local local value state)

abbrev pub do_global_get : (global : ℕ) → State → StepResult
do_global_get global state = given (slice_get state.globals global) (λ value. pushed value state)

abbrev pub do_global_set : (global : ℕ) → State → StepResult
do_global_set global state = given (top state) (λ value. checked (nat_lt global (length state.globals))
    (Continues (next (record (below state) { globals = slice_set state.globals global value }))))

-- ---- jumps and branches

abbrev pub do_jump_if_zero : (to : ℕ) → State → StepResult
do_jump_if_zero to state = given (top state) (λ value.
    Continues (if low value == 0 then jumped to (below state) else next (below state)))

-- the stack is cut to a height, counted from the first local, and the values on top of it are kept
abbrev pub cut : (height keep : ℕ) → State → State
cut height keep state = if nat_lt (state.base + height + keep) (length state.stack)
    then with_stack (take (state.base + height) state.stack ++ drop (length state.stack - keep) state.stack) state
    else state

abbrev pub branch : (to keep height : ℕ) → State → State
branch to keep height state = jumped to (cut height keep state)

abbrev pub do_branch_if : (to keep height : ℕ) → State → StepResult
do_branch_if to keep height state = given (top state) (λ value.
    Continues (if low value == 0 then next (below state) else branch to keep height (below state)))

-- takes the branch whose number is on the stack, or the last branch if that number is too large
abbrev pub do_branch_table : (count : ℕ) → State → StepResult
do_branch_table count state = given (top state) (λ value. Continues (jumped
    ((state.program_counter + 1 + (if nat_lt (low value) count then low value else count)) % 2 ^ 32) (below state)))

-- ---- memory instructions

-- its size in bytes
abbrev pub size : State → ℕ
size state = state.pages * 65536

abbrev pub two_at : List ℕ → (at : ℕ) → ℕ
two_at memory at = slice_index memory at + 256 * slice_index memory (at + 1)

abbrev pub four_at : List ℕ → (at : ℕ) → ℕ
four_at memory at = two_at memory at + 65536 * two_at memory (at + 2)

abbrev pub eight_at : List ℕ → (at : ℕ) → ℕ
eight_at memory at = four_at memory at + 4294967296 * four_at memory (at + 4)

-- the little-endian number at an address
abbrev pub number_at : AccessSize → List ℕ → (at : ℕ) → ℕ
number_at sizes.One memory at = slice_index memory at
number_at sizes.Two memory at = two_at memory at
number_at sizes.Four memory at = four_at memory at
number_at sizes.Eight memory at = eight_at memory at

abbrev pub count_of : AccessSize → ℕ
count_of sizes.One = 1
count_of sizes.Two = 2
count_of sizes.Four = 4
count_of sizes.Eight = 8

-- whether all these bytes lie within the memory
abbrev pub is_within : State → (at count : ℕ) → Bool
is_within state at count = nat_le (at + count) (size state)

abbrev pub loaded : AccessSize → (at : ℕ) → State → Option ℕ
loaded bytes at state = if is_within state at (count_of bytes) then Some (number_at bytes state.memory at) else None

abbrev pub do_load : AccessSize → (offset : ℕ) → State → StepResult
do_load bytes offset state = given (top state) (λ at. given (loaded bytes (low at + offset) (below state)) (λ value.
    pushed value (below state)))

-- zeros
unfoldable pub zeros : ℕ → List ℕ
zeros zero = []
zeros (suc count) = zeros count ++ 0 ∷ []

-- the kept bytes of a memory are a multiple of 64
abbrev pub rounded : (end : ℕ) → ℕ
rounded end = (end + 63) / 64 * 64

abbrev pub reached : (end : ℕ) → List ℕ → List ℕ
reached end memory = memory ++ zeros (rounded end - length memory)

unfoldable pub put_at : List ℕ → (bytes : List ℕ) → (at : ℕ) → List ℕ
put_at memory [] at = memory
put_at memory (byte ∷ bytes) at = put_at (slice_set memory at byte) bytes (at + 1)

abbrev pub with_memory : List ℕ → State → State
with_memory memory state = record state { memory = memory }

-- writes bytes at an address; None if they do not all fit the memory
abbrev pub put : (at : ℕ) → List ℕ → State → Option State
put at bytes state = if is_within state at (length bytes)
    then Some (with_memory (put_at (reached (at + length bytes) state.memory) bytes at) state) else None

abbrev pub after_put : Option State → (State → StepResult) → StepResult
after_put None then_do = Traps
after_put (Some state) then_do = then_do state

abbrev pub do_store : AccessSize → (offset : ℕ) → State → StepResult
do_store bytes offset state = given (top state) (λ value. given (top (below state)) (λ at.
    after_put (put (low at + offset) (take (count_of bytes) (to_le_bytes w64 value)) (below (below state)))
    (λ done. Continues (next done))))

-- pushes the old size in pages, or -1 if the new size would exceed the limit
abbrev pub do_memory_grow : (max_pages : ℕ) → State → StepResult
do_memory_grow max_pages state = given (top state) (λ more.
    if nat_le (state.pages + low more) max_pages
    then pushed state.pages (record (below state) { pages = state.pages + low more })
    else pushed 0xffff_ffff (below state))

-- the bytes starting at an address
unfoldable pub bytes_at : List ℕ → (at count : ℕ) → List ℕ
bytes_at memory at zero = []
bytes_at memory at (suc count) = bytes_at memory at count ++ slice_index memory (at + count) ∷ []

abbrev pub do_memory_copy : State → StepResult
do_memory_copy state = given (top state) (λ count. given (top (below state)) (λ from.
    given (top (below (below state))) (λ to. checked (is_within state (low from) (low count))
    (after_put (put (low to) (bytes_at state.memory (low from) (low count)) (below (below (below state))))
    (λ done. Continues (next done))))))

-- one byte, repeated
unfoldable pub same_bytes : (byte count : ℕ) → List ℕ
same_bytes byte zero = []
same_bytes byte (suc count) = same_bytes byte count ++ byte ∷ []

abbrev pub do_memory_fill : State → StepResult
do_memory_fill state = given (top state) (λ count. given (top (below state)) (λ value.
    given (top (below (below state))) (λ to. checked (is_within state (low to) (low count))
    (after_put (put (low to) (same_bytes (value % 256) (low count)) (below (below (below state))))
    (λ done. Continues (next done))))))

-- ---- calls

-- returns to the caller, or ends the run without a caller
abbrev pub returned : Option Frame → State → StepResult
returned None state = Ends
returned (Some frame) state = Continues (record state {
  program_counter = frame.return_to;
  base = frame.base;
  frames = take (length state.frames - 1) state.frames;
})

abbrev pub do_return : (keep : ℕ) → State → StepResult
do_return keep state =
    returned (slice_get state.frames (length state.frames - 1)) (cut 0 keep state)

-- a function is entered: its parameters are on top of the stack, and its other locals are 0
abbrev pub entered : Function → State → StepResult
entered function state = checked (nat_lt (length state.frames) max_frames
    && (nat_le function.parameters (length state.stack)
    && nat_le (length state.stack + function.locals) max_values)) (Continues (record state {
      program_counter = function.start;
      base = length state.stack - function.parameters;
      frames = state.frames ++ record { return_to = (state.program_counter + 1) % 2 ^ 32; base = state.base } ∷ [];
      stack = state.stack ++ zeros function.locals;
    }))

abbrev pub called : Option Function → State → StepResult
called None state = Traps
called (Some function) state = entered function state

abbrev pub do_call : Contents → (function : ℕ) → State → StepResult
do_call program function state = called (slice_get program.functions function) state

-- calls a function, or traps unless its type is this one
abbrev pub typed : Option Function → (function_type : ℕ) → State → StepResult
typed None function_type state = Traps
typed (Some function) function_type state = checked (function.function_type == function_type) (entered function state)

abbrev pub from_table : Contents → Option (Option ℕ) → (function_type : ℕ) → State → StepResult
from_table program None function_type state = Traps
from_table program (Some None) function_type state = Traps
from_table program (Some (Some function)) function_type state =
    typed (slice_get program.functions function) function_type state

abbrev pub do_call_indirect : Contents → (function_type : ℕ) → State → StepResult
do_call_indirect program function_type state = given (top state) (λ value.
    from_table program (slice_get program.table (low value)) function_type (below state))

-- ---- calls of the host

-- how many parameters a function of the host has
abbrev pub parameters_of : HostFunction → ℕ
parameters_of imports.Write = 4
parameters_of imports.Board = 2
parameters_of imports.Depart = 1
parameters_of imports.Accuse = 1
parameters_of imports.Argument = 1
parameters_of function = 0

-- pushes the argument with a number, or 0
abbrev pub do_argument : State → StepResult
do_argument state = given (top state) (λ number. pushed (slice_index state.arguments (low number)) (below state))

-- writes the whiteboard at an address, truncated to the room there, and pushes its length
abbrev pub do_board : State → StepResult
do_board state = given (top state) (λ room. given (top (below state)) (λ to.
    after_put (put (low to) (take (low room) state.board) (below (below state)))
    (λ done. pushed (length state.board) done)))

-- commands wait, and the others answer at once
abbrev pub do_call_host : HostFunction → State → StepResult
do_call_host imports.Ports state = pushed state.ports state
do_call_host imports.Came state = pushed state.came state
do_call_host imports.Board state = do_board state
do_call_host imports.Argument state = do_argument state
do_call_host function state = Waits function state

-- ---- execution

abbrev pub do_instruction : Contents → Instruction → State → StepResult
do_instruction program instruction.Unreachable state = Traps
do_instruction program (instruction.Const value) state = pushed value state
do_instruction program (instruction.Unary32 op) state = do_unary32 op state
do_instruction program (instruction.Unary64 op) state = do_unary64 op state
do_instruction program (instruction.Binary32 op) state = do_binary32 op state
do_instruction program (instruction.Binary64 op) state = do_binary64 op state
do_instruction program instruction.Drop state = do_drop state
do_instruction program instruction.Select state = do_select state
do_instruction program (instruction.LocalGet local) state = do_local_get local state
do_instruction program (instruction.LocalSet local) state = do_local_set local state
do_instruction program (instruction.LocalTee local) state = do_local_tee local state
do_instruction program (instruction.GlobalGet global) state = do_global_get global state
do_instruction program (instruction.GlobalSet global) state = do_global_set global state
do_instruction program (instruction.Load bytes offset) state = do_load bytes offset state
do_instruction program (instruction.Store bytes offset) state = do_store bytes offset state
do_instruction program instruction.MemorySize state = pushed state.pages state
do_instruction program instruction.MemoryGrow state = do_memory_grow program.max_pages state
do_instruction program instruction.MemoryCopy state = do_memory_copy state
do_instruction program instruction.MemoryFill state = do_memory_fill state
do_instruction program (instruction.Jump to) state = Continues (jumped to state)
do_instruction program (instruction.JumpIfZero to) state = do_jump_if_zero to state
do_instruction program (instruction.Branch to keep height) state = Continues (branch to keep height state)
do_instruction program (instruction.BranchIf to keep height) state = do_branch_if to keep height state
do_instruction program (instruction.BranchTable count) state = do_branch_table count state
do_instruction program (instruction.Return keep) state = do_return keep state
do_instruction program (instruction.Call function) state = do_call program function state
do_instruction program (instruction.CallIndirect function_type) state = do_call_indirect program function_type state
do_instruction program (instruction.CallHost function) state = do_call_host function state

abbrev pub do_next : Contents → Option Instruction → State → StepResult
do_next program None state = Traps
do_next program (Some found) state = do_instruction program found state

-- the instruction that is next
abbrev pub instruction_in : Contents → State → Option Instruction
instruction_in program state = slice_get program.code state.program_counter

-- the pages that a growth adds
abbrev pub added_pages : (max_pages : ℕ) → State → ℕ
added_pages max_pages state =
    if nat_le (state.pages + operand 0 state) max_pages then operand 0 state else 0

-- The fuel that an instruction burns: one. A copy or a fill burns one more for each 64 bytes, and a growth 1,024 more
-- for each page that it adds, which are as many bytes.
abbrev pub cost_of : (max_pages : ℕ) → Option Instruction → State → ℕ
cost_of max_pages (Some instruction.MemoryCopy) state = 1 + operand 0 state / 64
cost_of max_pages (Some instruction.MemoryFill) state = 1 + operand 0 state / 64
cost_of max_pages (Some instruction.MemoryGrow) state = 1 + 1_024 * added_pages max_pages state
cost_of max_pages found state = 1

-- what comes of what follows, if an instruction continues
abbrev pub and_then : StepResult → (State → StepResult) → StepResult
and_then (Continues state) then_do = then_do state
and_then (Waits function state) then_do = Waits function state
and_then Ends then_do = Ends
and_then Traps then_do = Traps

-- Runs instructions while the fuel pays for them, until one does not continue. The module traps when its fuel does not
-- pay for the next instruction. Each instruction burns some fuel, so `most` bounds their number if the fuel is at most
-- `most`.
unfoldable pub burned : Contents → (most fuel : ℕ) → State → StepResult
burned program zero fuel state = Traps
burned program (suc most) fuel state =
    if nat_lt fuel (cost_of program.max_pages (instruction_in program state) state) then Traps
    else and_then (do_next program (instruction_in program state) state)
    (burned program most (fuel - cost_of program.max_pages (instruction_in program state) state))

abbrev pub run : Contents → (fuel : ℕ) → State → StepResult
run program fuel state = burned program fuel fuel state

-- ---- from command to command

-- what the last reply says is forgotten
abbrev pub forgotten : State → State
forgotten state = record state { ports = 0; came = 0; board = [] }

-- an instance whose memory is still empty
abbrev pub instance : Contents → (arguments : List ℕ) → State
instance program arguments = record {
  program_counter = 0;
  base = 0;
  frames = [];
  stack = [];
  globals = program.globals;
  memory = [];
  pages = program.pages;
  ports = 0;
  came = 0;
  board = [];
  arguments = arguments;
}

abbrev pub invoked : Option Function → State → StepResult
invoked None state = Traps
invoked (Some function) state = Continues (jumped function.start (with_stack (zeros function.locals) state))

-- an instance in the function that is exported as `run`, with the first bytes of its memory
abbrev pub instantiated : Contents → (arguments : List ℕ) → StepResult
instantiated program arguments = after_put (put 0 program.memory (instance program arguments))
    (invoked (slice_get program.functions program.entry))

-- the parameters of the command are popped, and its result is pushed
abbrev pub answered : (parameters value : ℕ) → State → StepResult
answered parameters value state = checked (nat_le parameters (length state.stack))
    (pushed value (with_stack (take (length state.stack - parameters) state.stack) state))

-- the bytes starting at an address; None beyond the memory's end
abbrev pub bytes_in : (at count : ℕ) → State → Option (List ℕ)
bytes_in at count state = if is_within state at count then Some (bytes_at state.memory at count) else None
