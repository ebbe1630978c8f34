-- The lines that a client writes.
use Rattle.std.specs.Prelude.{ℕ, ◌<◌, ◌^◌, List, codes, ⊤}
use Rattle.serde_json.specs.Data.{Data, null, number, unsigned, string, object, Members, no_members, member}
use Rattle.bhs_model.specs.declared.commands.Command.{Command}
use Rattle.bhs_model.specs.declared.commands.Command.TheVariants as command
use Rattle.bhs_wire.specs.declared.commands.First.{First}
use Rattle.bhs_wire.specs.declared.commands.First.TheVariants.{Enter, Tell}

-- an object that does this
abbrev pub does : (word : List ℕ) → Members → Data
does word members = object (member (codes "do") (string word) members)

-- by this port
abbrev pub by_port : ℕ → Members
by_port port = member (codes "port") (number (unsigned port)) no_members

-- what a client writes for a command, where it enters with this key
abbrev pub data_of : (key : List ℕ) → Command → Data
data_of key command.Enter = does (codes "enter") (member (codes "key") (string key) no_members)
data_of key command.Look = does (codes "look") no_members
data_of key (command.Write expect put) =
    does (codes "write") (member (codes "expect") (string expect) (member (codes "put") (string put) no_members))
data_of key (command.Depart port) = does (codes "depart") (by_port port)
data_of key (command.Accuse port) = does (codes "accuse") (by_port port)
data_of key command.Leave = does (codes "leave") no_members
data_of key command.Bad = null

-- the meaning of the line for the server
abbrev pub meant : (key : List ℕ) → Command → First
meant key command.Enter = Enter key
meant key command = Tell command

-- a port has 16 bits
abbrev pub PortFits : Command → Type 0
PortFits (command.Depart port) = port < 2 ^ 16
PortFits (command.Accuse port) = port < 2 ^ 16
PortFits command = ⊤
