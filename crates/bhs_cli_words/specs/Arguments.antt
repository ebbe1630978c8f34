-- The words and options of commands: what clap is told of each, and what number a word is.
use Rattle.std.specs.Prelude.{◌≡◌, ◌&&◌, Bool, true, false, not, ℕ, nat_le, List, [], ◌∷◌, Option, Some, None, codes}
use Rattle.std.specs.Prelude.{if◌then◌else◌, option_and_then, option_map, unwrap_or}
use Rattle.std.specs.List.{list_all}
use Rattle.std.specs.Str.{bytes_eq}
use Rattle.std.specs.Char.{is_ascii_digit}
use Rattle.std.specs.Str.Parse.{digits_value}
use Rattle.clap.specs.Words.{App, Row, Rule, Shape, Text, all_of, first_of, new_app, new_rule, shape_of}
use Rattle.clap.specs.Simple.{new_shape, on_top}
use Rattle.clap.specs.Walk.{is_empty}
use Rattle.clap.specs.declared.builder.action.ArgAction.TheVariants.{SetTrue}
use Rattle.clap.specs.declared.builder.command.Command.{Command}
use Rattle.clap.specs.declared.builder.command.Command.TheViews.{out-Command as fields_of}

-- a program that tells its version, wants a command, and answers with its help if it gets no word at all
abbrev pub program : Text → App
program name = on_top (λ s. record s {
  has_version = true;
  no_binary_name = true;
  arg_required_else_help = true;
  subcommand_required = true;
}) (new_app name)

-- an optional word of a command, and a required one
abbrev pub may_have : (id : Text) → Rule
may_have id = record (new_rule id) { value_names = 1 }

abbrev pub must_have : (id : Text) → Rule
must_have id = record (new_rule id) { required = true; value_names = 1 }

-- an optional word of a command, with its default
abbrev pub has_default : (id word : Text) → Rule
has_default id word = record (may_have id) { defaults = word ∷ [] }

-- an option that takes no word
abbrev pub flag : (id : Text) → Rule
flag id = record (new_rule id) { action = Some SetTrue }

-- a word that stands behind the option of this name
abbrev pub behind : (option : Text) → Rule → Rule
behind option rule = record rule { long = Some option }

-- an option that takes a number from `least` to `most`, and what its word is where none is given
pub record NumberOption : Type 0 where
  pub name : Text
  pub least : ℕ
  pub most : ℕ
  pub default : Text

abbrev pub numbered : NumberOption → Rule
numbered option = behind option.name (has_default option.name option.default)

-- a command with these words
abbrev pub command : (name : Text) → List Rule → Shape
command name rules = record (new_shape name) { rules = rules }

-- a command of this shape, with no global argument
pub record IsTold (command : Command) (is : Shape) : Type 0 where
  pub shape : shape_of command ≡ is
  pub local : (fields_of command).has_globals ≡ false

-- the number from `least` to `most` that a word spells in decimal digits; zeros may stand in front
abbrev pub number_within : (least most : ℕ) → Text → Option ℕ
number_within least most word =
    let number = digits_value 10 word in
    if list_all is_ascii_digit word && (not (is_empty word) && (nat_le least number && nat_le number most))
    then Some number else None

-- the number of an agent or a node
abbrev pub number_in : Text → Option ℕ
number_in = number_within 0 65535

-- the number that the word of an option spells
abbrev pub number_of : NumberOption → Text → Option ℕ
number_of option = number_within option.least option.most

-- the word that a command must have, and all its words; clap refuses a command without them
abbrev pub text_in : (id : Text) → List Row → Text
text_in id rows = unwrap_or (first_of id rows) []

abbrev pub texts_in : (id : Text) → List Row → List Text
texts_in id rows = unwrap_or (all_of id rows) []

-- The meanings of all words, in order; None as soon as one word has no meaning.
abbrev pub all_said : {T : Type 0} → (says : Text → Option T) → List Text → Option (List T)
all_said says [] = Some []
all_said says (word ∷ words) =
    option_and_then (λ said. option_map (λ more. said ∷ more) (all_said says words)) (says word)

-- whether an option that takes no word is given
abbrev pub is_given : (id : Text) → List Row → Bool
is_given id rows = bytes_eq (text_in id rows) (codes "true")
