-- Reading a line without building a tree: a fold over the members of an object.
use Rattle.std.specs.Prelude.{◌≡◌, ℕ, List, codes, bytes_eq, if◌then◌else◌, Option, Some, None, option_map}
use Rattle.std.specs.Prelude.{option_and_then}
use Rattle.json.specs.Json.{value, if_last}
use Rattle.json.specs.Token.{Token}
use Rattle.serde_json.specs.Data.{Data, Members, object}
use Rattle.serde_json.specs.Find.{as_str, as_number, as_u64}
use Rattle.serde_json.specs.Read.{of_json, max_depth}
use Rattle.bhs_model.specs.declared.commands.Command.TheVariants.{Look, Leave, Bad}
use Rattle.bhs_wire.specs.declared.commands.First.{First}
use Rattle.bhs_wire.specs.declared.commands.First.TheVariants.{Tell}
use Rattle.bhs_wire.specs.declared.said.Content.{Content}
use Rattle.bhs_wire.specs.declared.said.Content.TheVariants.{Text, Port, Other}
use Rattle.bhs_wire.specs.declared.said.Said.{Said}
use Rattle.bhs_wire.specs.First.{text_at, port_at, if_port, first_with, write_with, depart_by, accuse_by, first_of_read}

-- the remaining tokens
abbrev pub rest_of : {A : Type 0} → Option (A × List Token) → Option (List Token)
rest_of read = option_map (λ p. p.1) read

-- the text that was taken from a value
abbrev pub text_in : Content → Option (List ℕ)
text_in (Text text) = Some text.now
text_in (Port port) = None
text_in Other = None

-- the port in a value that was read
abbrev pub port_in : Content → Option ℕ
port_in (Text text) = None
port_in (Port port) = Some port
port_in Other = None

-- a value's number within the range of ports
abbrev pub port_from : Data → Option ℕ
port_from value = option_and_then if_port (option_and_then as_u64 (as_number value))

-- the text and the port of a value were taken
pub record IsContentOf (content : Content) (value : Data) : Type 0 where
  pub text : text_in content ≡ as_str value
  pub port : port_in content ≡ port_from value

-- what stands at the keys that commands look at was taken from the members
pub record IsSaidBy (said : Said) (members : Members) : Type 0 where
  pub word : text_in said.word ≡ text_at (codes "do") (object members)
  pub key : text_in said.key ≡ text_at (codes "key") (object members)
  pub expect : text_in said.expect ≡ text_at (codes "expect") (object members)
  pub put : text_in said.put ≡ text_at (codes "put") (object members)
  pub port : port_in said.port ≡ port_at (codes "port") (object members)

-- the command of an object with this word and these members
abbrev pub told_with : Option (List ℕ) → Said → First
told_with None said = Tell Bad
told_with (Some word) said =
    if bytes_eq word (codes "enter") then first_with (text_in said.key)
    else (if bytes_eq word (codes "look") then Tell Look
    else (if bytes_eq word (codes "write") then Tell (write_with (text_in said.expect) (text_in said.put))
    else (if bytes_eq word (codes "depart") then Tell (depart_by (port_in said.port))
    else (if bytes_eq word (codes "accuse") then Tell (accuse_by (port_in said.port))
    else (if bytes_eq word (codes "leave") then Tell Leave
    else Tell Bad)))))

-- the command of an object, from its members
abbrev pub told : Said → First
told said = told_with (text_in said.word) said

-- what a line says that has these tokens
abbrev pub said_by_tokens : List Token → First
said_by_tokens tokens =
    first_of_read (option_and_then of_json (option_and_then (λ p. if_last p.0 p.1) (value max_depth tokens)))
