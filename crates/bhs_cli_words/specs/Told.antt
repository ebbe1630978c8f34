-- What clap is told of the rows of the code, and which numbers their words are.
use Rattle.std.specs.Prelude.{ℕ, List, map, Option, Some, None}
use Rattle.std.specs.Borrow.{Bor}
use Rattle.clap.specs.Words.{Row, Rule, Shape, Text}
use Rattle.clap.specs.declared.builder.action.ArgAction.TheVariants.{Append}
use Rattle.bhs_cli_words.specs.Arguments.{behind, command, flag, has_default, may_have, must_have, number_within}
use Rattle.bhs_cli_words.specs.Arguments.{text_in}
use Rattle.bhs_cli_words.specs.declared.commands.Argument.{Argument}
use Rattle.bhs_cli_words.specs.declared.commands.Need.{Need}
use Rattle.bhs_cli_words.specs.declared.commands.Need.TheVariants.{AnyNumber, Default, OneOrMore, Optional, Required}
use Rattle.bhs_cli_words.specs.declared.commands.Need.TheVariants.{Switch}
use Rattle.bhs_cli_words.specs.declared.commands.Subcommand.{Subcommand}
use Rattle.bhs_cli_words.specs.declared.commands.Takes.{Takes}
use Rattle.bhs_cli_words.specs.declared.commands.Takes.TheVariants.{Number}

-- a word, required or optional
abbrev pub needed_by : (id : Text) → Need → Rule
needed_by id Required = must_have id
needed_by id OneOrMore = record (must_have id) { action = Some Append }
needed_by id Optional = may_have id
needed_by id AnyNumber = record (may_have id) { action = Some Append }
needed_by id (Default word) = has_default id word.now
needed_by id Switch = flag id

-- the rule of a word after an optional option
abbrev pub placed : Option (Bor Text) → Rule → Rule
placed None rule = rule
placed (Some option) rule = behind option.now rule

-- a word or an option, by its row
abbrev pub rule_by : Argument → Rule
rule_by row = placed row.option (needed_by row.id.now row.need)

-- a command, by its row
abbrev pub shape_by : Subcommand → Shape
shape_by row = command row.name.now (map rule_by row.arguments.now)

-- the number that a word spells, within the range of its kind
abbrev pub number_by : Takes → Text → Option ℕ
number_by (Number least most) word = number_within least most word
number_by _ word = None

-- the same of the word of a row
abbrev pub row_number : Argument → List Row → Option ℕ
row_number row rows = number_by row.takes (text_in row.id.now rows)

-- the largest admissible number
abbrev pub most_of : Takes → ℕ
most_of (Number least most) = most
most_of _ = 0
