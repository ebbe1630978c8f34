-- What a line of a client says.
use Rattle.std.specs.Prelude.{ℕ, ◌^◌, List, codes, nat_lt, bytes_eq, if◌then◌else◌, Option, Some, None, option_and_then}
use Rattle.std.specs.Str.{is_utf8}
use Rattle.serde_json.specs.Data.{Data}
use Rattle.serde_json.specs.Find.{get, as_str, as_number, as_u64}
use Rattle.serde_json.specs.Read.{read}
use Rattle.bhs_model.specs.declared.commands.Command.{Command}
use Rattle.bhs_model.specs.declared.commands.Command.TheVariants.{Look, Write, Depart, Accuse, Leave, Bad}
use Rattle.bhs_wire.specs.declared.commands.First.{First}
use Rattle.bhs_wire.specs.declared.commands.First.TheVariants.{Enter, Tell}
use Rattle.bhs_wire.specs.declared.kinds.LineKind.{LineKind}
use Rattle.bhs_wire.specs.declared.kinds.LineKind.TheVariants.{Over, Blank, Whole}
use Rattle.bhs_wire.specs.LineKind.{line_kind}

-- the text at a key of an object
abbrev pub text_at : List ℕ → Data → Option (List ℕ)
text_at key value = option_and_then as_str (get key value)

-- a number within the range of ports
abbrev pub if_port : ℕ → Option ℕ
if_port number = if nat_lt number (2 ^ 16) then Some number else None

-- The integer at a key, within the range of ports; `1.0` is no integer.
abbrev pub port_at : List ℕ → Data → Option ℕ
port_at key value = option_and_then if_port (option_and_then as_u64 (option_and_then as_number (get key value)))

-- a line that enters needs a key
abbrev pub first_with : Option (List ℕ) → First
first_with None = Tell Bad
first_with (Some key) = Enter key

-- what an object says that does "enter"
abbrev pub enters : Data → First
enters value = first_with (text_at (codes "key") value)

-- a write needs both texts
abbrev pub write_with : Option (List ℕ) → Option (List ℕ) → Command
write_with (Some expect) (Some put) = Write expect put
write_with _ _ = Bad

-- what an object says that does "write"
abbrev pub writes : Data → Command
writes value = write_with (text_at (codes "expect") value) (text_at (codes "put") value)

-- a departure needs a port
abbrev pub depart_by : Option ℕ → Command
depart_by None = Bad
depart_by (Some port) = Depart port

-- what an object says that does "depart"
abbrev pub departs : Data → Command
departs value = depart_by (port_at (codes "port") value)

-- and so does an accusation
abbrev pub accuse_by : Option ℕ → Command
accuse_by None = Bad
accuse_by (Some port) = Accuse port

-- what an object says that does "accuse"
abbrev pub accuses : Data → Command
accuses value = accuse_by (port_at (codes "port") value)

-- The command of an object, selected by its text at "do". Keys that the command does not need are ignored.
abbrev pub first_by : Option (List ℕ) → Data → First
first_by None value = Tell Bad
first_by (Some word) value =
    if bytes_eq word (codes "enter") then enters value
    else (if bytes_eq word (codes "look") then Tell Look
    else (if bytes_eq word (codes "write") then Tell (writes value)
    else (if bytes_eq word (codes "depart") then Tell (departs value)
    else (if bytes_eq word (codes "accuse") then Tell (accuses value)
    else (if bytes_eq word (codes "leave") then Tell Leave
    else Tell Bad)))))

-- The command of a JSON value; a value other than an object has no text at "do".
abbrev pub first_in : Data → First
first_in value = first_by (text_at (codes "do") value) value

-- what is not read is a bad command
abbrev pub first_of_read : Option Data → First
first_of_read None = Tell Bad
first_of_read (Some value) = first_in value

-- what a line says, which is text in UTF-8 and read as JSON
abbrev pub first_of : List ℕ → First
first_of line = first_of_read (if is_utf8 line then read line else None)

-- what a line of this kind says
abbrev pub says_as : LineKind → List ℕ → Option First
says_as Over line = Some (Tell Bad)
says_as Blank line = None
says_as Whole line = Some (first_of line)

-- what a client means by a line, blank and overlong ones included
abbrev pub says : List ℕ → Option First
says line = says_as (line_kind line) line
