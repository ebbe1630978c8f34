-- What a head line says, if it is spelled as it would be written.
use Rattle.std.specs.Prelude.{ℕ, ◌==◌, List, [], ◌∷◌, codes, if◌then◌else◌, Option, Some, None, option_map}
use Rattle.std.specs.Prelude.{option_and_then, option_to_list}
use Rattle.std.specs.Str.{is_utf8}
use Rattle.serde_json.specs.Data.{Data, Items, no_items, item}
use Rattle.serde_json.specs.Find.{get, at, as_array, as_number, as_u64}
use Rattle.serde_json.specs.Read.{read}
use Rattle.bhs_net.specs.declared.links.Link.{Link}
use Rattle.bhs_model.specs.declared.setups.Setup.{Setup}
use Rattle.bhs_wire.specs.First.{if_port, port_at}
use Rattle.bhs_replay.specs.declared.heads.Version.{Version}
use Rattle.bhs_replay.specs.declared.heads.Version.TheVariants.{One, Two, Three}

-- what a head says
pub record HeadFields : Type 0 where
  pub version : Version
  pub nodes : ℕ
  pub links : List Link
  pub setup : Setup

-- A number of 16 bits, and the number at an index of a list.
abbrev pub number_in : Data → Option ℕ
number_in value = option_and_then if_port (option_and_then as_u64 (as_number value))

abbrev pub item_at : ℕ → Data → Option ℕ
item_at place value = option_and_then if_port (option_and_then as_u64 (option_and_then as_number (at place value)))

-- the first numbers of a list; more of them would be spelled otherwise
abbrev pub pair_in : Data → Option (ℕ × ℕ)
pair_in value = option_and_then (λ node. option_map (λ port. (node, port)) (item_at 1 value)) (item_at 0 value)

abbrev pub link_in : Data → Option Link
link_in value =
    option_and_then (λ v. option_and_then (λ p.
    option_and_then (λ w. option_map (λ q. record { v = v; p = p; w = w; q = q })
    (item_at 3 value)) (item_at 2 value)) (item_at 1 value)) (item_at 0 value)

module _ {A : Type 0} (shape : Data → Option A) where
  -- each item in the shape
  abbrev pub each : Items → Option (List A)
  each no_items = Some []
  each (item value others) = option_and_then (λ one. option_map (λ more. one ∷ more) (each others)) (shape value)

  -- the list at a key, each item in the shape
  abbrev pub list_at : List ℕ → Data → Option (List A)
  list_at key value = option_and_then each (option_and_then as_array (get key value))

abbrev pub version_by : ℕ → Option Version
version_by number = if number == 1 then Some One
    else (if number == 2 then Some Two
    else (if number == 3 then Some Three else None))

abbrev pub version_in : Data → Option Version
version_in value = option_and_then version_by (port_at (codes "replay") value)

-- the optional black hole of a version 1 head
abbrev pub holes_in : Version → Data → Option (List ℕ)
holes_in One value = Some (option_to_list (port_at (codes "hole") value))
holes_in Two value = list_at number_in (codes "holes") value
holes_in Three value = list_at number_in (codes "holes") value

abbrev pub dark_in : Version → Data → Option (List (ℕ × ℕ))
dark_in One value = Some []
dark_in Two value = list_at pair_in (codes "dark") value
dark_in Three value = list_at pair_in (codes "dark") value

abbrev pub setup_with : List ℕ → List (ℕ × ℕ) → Data → Option Setup
setup_with holes dark value =
    option_and_then (λ home. option_and_then (λ agents. option_and_then (λ quota. option_map (λ board.
    record { home = home; holes = holes; dark = dark; agents = agents; quota = quota; board = board })
    (port_at (codes "board") value)) (port_at (codes "quota") value)) (port_at (codes "agents") value))
    (port_at (codes "home") value)

abbrev pub setup_in : Version → Data → Option Setup
setup_in version value = option_and_then (λ holes. option_and_then (λ dark. setup_with holes dark value)
    (dark_in version value)) (holes_in version value)

abbrev pub says_with : Version → List Link → Data → Setup → Option HeadFields
says_with version links value setup = option_map
    (λ nodes. record { version = version; nodes = nodes; links = links; setup = setup }) (port_at (codes "nodes") value)

abbrev pub says_as : Data → Version → Option HeadFields
says_as value version = option_and_then (λ links. option_and_then (says_with version links value)
    (setup_in version value)) (list_at link_in (codes "links") value)

abbrev pub says_in : Data → Option HeadFields
says_in value = option_and_then (says_as value) (version_in value)

-- what a line says
abbrev pub head_says : List ℕ → Option HeadFields
head_says line = option_and_then says_in (if is_utf8 line then read line else None)
