-- Agents that run a module: their memories, what they do next, and their memories after something has happened.
use Rattle.std.specs.Prelude.{ℕ, ◌+◌, ◌-◌, ◌^◌, Bool, true, false, nat_lt, nat_le, Option, Some, None, List, []}
use Rattle.std.specs.Prelude.{◌∷◌, length}
use Rattle.std.specs.Prelude.{if◌then◌else◌, unwrap_or, ◌&&◌}
use Rattle.std.specs.Str.{is_utf8}
use Rattle.json.specs.Print.{escape}
use Rattle.bhs_model.specs.declared.commands.Command.TheVariants as commands
use Rattle.bhs_model.specs.declared.limits.TheConstants.{MAX_LINE}
use Rattle.bhs_model.specs.declared.replies.Reply.TheVariants as replies
use Rattle.bhs_schedules.specs.declared.answers.Step.{Step}
use Rattle.bhs_schedules.specs.declared.answers.Step.TheVariants as steps
use Rattle.bhs_schedules.specs.Strategies.{Observation, Heard, Woke, History, Strategy}
use Rattle.bhs_explore.specs.Questions.{number_of}
use Rattle.bhs_wasm.specs.declared.instructions.HostFunction.{HostFunction}
use Rattle.bhs_wasm.specs.declared.instructions.HostFunction.TheVariants as imports
use Rattle.bhs_wasm.specs.Contents.{Contents}
use Rattle.bhs_wasm.specs.States.{State, StepResult, Continues, Waits, Ends, Traps, run, instantiated, answered}
use Rattle.bhs_wasm.specs.States.{operand, bytes_in, forgotten, parameters_of}
use Rattle.bhs_wasm_team.specs.Packing.{unpacked}
use Rattle.bhs_wasm_team.specs.declared.memory_table.Status.{Status}
use Rattle.bhs_wasm_team.specs.declared.memory_table.Status.TheVariants as statuses
use Rattle.bhs_wasm_team.specs.declared.memory_table.Saved.{Saved}

-- the memory of an agent: why it does not run now, and the state of its instance
pub record AgentMemory : Type 0 where
  pub status : Status
  pub state : State

-- the memory of an agent that does nothing more
abbrev pub halted : Status → AgentMemory
halted status = record {
  status = status;
  state = record {
    program_counter = 0;
    base = 0;
    frames = [];
    stack = [];
    globals = [];
    memory = [];
    pages = 0;
    ports = 0;
    came = 0;
    board = [];
    arguments = [];
  };
}

-- the memory that is saved
abbrev pub memory_of_saved : Saved → AgentMemory
memory_of_saved saved = record {
  status = saved.status;
  state = record {
    program_counter = saved.program_counter;
    base = saved.base;
    frames = saved.frames.items;
    stack = saved.stack.items;
    globals = saved.globals.items;
    memory = unpacked saved.memory.items;
    pages = saved.pages;
    ports = 0;
    came = 0;
    board = [];
    arguments = saved.arguments.items;
  };
}

-- ---- what an agent says

-- the bytes, if they are valid UTF-8
abbrev pub in_utf8 : Option (List ℕ) → Option (List ℕ)
in_utf8 None = None
in_utf8 (Some bytes) = if is_utf8 bytes then Some bytes else None

-- a text in the memory of an instance
abbrev pub text_in : (at count : ℕ) → State → Option (List ℕ)
text_in at count state = if nat_le count 65536 then in_utf8 (bytes_in at count state) else None

-- The length of the line by which a client writes: braces, keys and quotation marks have 35 bytes, and in the texts
-- some bytes are escaped.
abbrev pub write_length : (expect put : List ℕ) → ℕ
write_length expect put = 35 + (length (escape expect) + length (escape put))

-- a command to write, if both are texts, and a server takes its line
abbrev pub writes : Option (List ℕ) → Option (List ℕ) → Option Step
writes (Some expect) (Some put) =
    if nat_le (write_length expect put) MAX_LINE then Some (steps.Says (commands.Write expect put)) else None
writes expect put = None

-- The step of an agent that has called a host function: it issues a command, or sleeps. None if the function is no
-- command, the port is out of range, a text lies outside the memory or is not valid UTF-8, or the line of a Write
-- exceeds the server's limit.
abbrev pub said : HostFunction → State → Option Step
said imports.Enter state = Some (steps.Says commands.Enter)
said imports.Look state = Some (steps.Says commands.Look)
said imports.Write state = writes (text_in (operand 3 state) (operand 2 state) state)
    (text_in (operand 1 state) (operand 0 state) state)
said imports.Depart state =
    if nat_lt (operand 0 state) 65536 then Some (steps.Says (commands.Depart (operand 0 state))) else None
said imports.Accuse state =
    if nat_lt (operand 0 state) 65536 then Some (steps.Says (commands.Accuse (operand 0 state))) else None
said imports.Leave state = Some (steps.Says commands.Leave)
said imports.Sleep state = Some steps.Sleeps
said function state = None

-- ---- the memories of an agent

abbrev pub waiting : HostFunction → State → Option Step → AgentMemory
waiting function state None = halted statuses.Failed
waiting function state (Some step) = record { status = statuses.Waits function; state = state }

-- the agent's memory once its instance does not continue
abbrev pub settled : StepResult → AgentMemory
settled (Waits function state) = waiting function (forgotten state) (said function (forgotten state))
settled Ends = halted statuses.Ended
settled Traps = halted statuses.Failed
settled (Continues state) = halted statuses.Failed

-- when its instance runs to the next command
abbrev pub resumed : Contents → (fuel : ℕ) → StepResult → AgentMemory
resumed program fuel (Continues state) = settled (run program fuel state)
resumed program fuel outcome = halted statuses.Failed

-- at the start
abbrev pub start : Contents → (arguments : List ℕ) → (fuel : ℕ) → AgentMemory
start program arguments fuel = resumed program fuel (instantiated program arguments)

abbrev pub came_number : Option ℕ → ℕ
came_number None = 2 ^ 32 - 1
came_number (Some port) = port

-- what a reply says, and the number that the command returns
abbrev pub seen : Observation → State → State
seen (Heard (replies.Here ports came board)) state =
    record state { ports = ports; came = came_number came; board = board }
seen (Heard (replies.Changed board)) state = record state { board = board }
seen observation state = state

abbrev pub number_by : Observation → ℕ
number_by Woke = 0
number_by (Heard (replies.Here ports came board)) = 1
number_by (Heard replies.Written) = 2
number_by (Heard (replies.Changed board)) = 3
number_by (Heard replies.Gone) = 4
number_by (Heard replies.Noted) = 5
number_by (Heard replies.Bye) = 6
number_by (Heard replies.Over) = 7
number_by (Heard (replies.No why)) = 2 ^ 32 - number_of why

abbrev pub goes_on : Contents → (fuel parameters : ℕ) → Observation → State → AgentMemory
goes_on program fuel parameters observation state = resumed program fuel (answered parameters (number_by observation)
    (seen observation state))

abbrev pub is_gone : Observation → Bool
is_gone (Heard replies.Gone) = true
is_gone observation = false

abbrev pub is_depart : HostFunction → Bool
is_depart imports.Depart = true
is_depart function = false

-- after something has happened: an agent that has departed is on its link until it hears more
abbrev pub after_at : Contents → (fuel : ℕ) → Status → State → Observation → AgentMemory
after_at program fuel (statuses.Waits function) state observation =
    if is_depart function && is_gone observation then record { status = statuses.Travels; state = forgotten state }
    else goes_on program fuel (parameters_of function) observation state
after_at program fuel statuses.Travels state observation = goes_on program fuel 1 observation state
after_at program fuel statuses.Ended state observation = halted statuses.Ended
after_at program fuel statuses.Failed state observation = halted statuses.Failed

abbrev pub after : Contents → (fuel : ℕ) → AgentMemory → Observation → AgentMemory
after program fuel agent_memory observation = after_at program fuel agent_memory.status agent_memory.state observation

-- what an agent does next
abbrev pub does_at : Status → State → Step
does_at (statuses.Waits function) state = unwrap_or (said function state) steps.Fails
does_at statuses.Travels state = steps.Stops
does_at statuses.Ended state = steps.Stops
does_at statuses.Failed state = steps.Fails

abbrev pub does : AgentMemory → Step
does agent_memory = does_at agent_memory.status agent_memory.state

-- ---- strategies

-- the memory of an agent that runs a module, after this history
abbrev pub memory_after : Contents → (arguments : List ℕ) → (fuel : ℕ) → History → AgentMemory
memory_after program arguments fuel [] = start program arguments fuel
memory_after program arguments fuel (observation ∷ history) =
    after program fuel (memory_after program arguments fuel history) observation

-- the strategy of an agent that runs a module
abbrev pub strategy_of : Contents → (arguments : List ℕ) → (fuel : ℕ) → Strategy
strategy_of program arguments fuel history = does (memory_after program arguments fuel history)
