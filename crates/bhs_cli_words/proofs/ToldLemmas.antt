-- What is told of commands, one more of their words and options at a time.
use Rattle.std.proofs.Common.{◌≡◌, ◌++◌, ◌∷◌, [], List, Result, IfOk, ℕ, ◌<◌, ◌+◌}
use Rattle.std.proofs.Common.{fold, get_or, length, map, take}
use Rattle.std.proofs.lemmas.List.{map-append, take_more}
use Rattle.std.proofs.lemmas.List.Sums.{fold-append}
use Rattle.clap.specs.Words.{App, Text, app_of, with_subcommand}
use Rattle.clap.specs.declared.builder.command.Command.{Command}
use Rattle.bhs_cli_words.specs.Arguments.{IsTold, command}
use Rattle.bhs_cli_words.specs.Told.{rule_by, shape_by}
use Rattle.bhs_cli_words.specs.declared.commands.Argument.{Argument}
use Rattle.bhs_cli_words.specs.declared.commands.Subcommand.{Subcommand}

-- the rows so far, and one more
pub more_told : {E : Type 0} (new : Result Command E) (name : Text) (rows : List Argument) (i : ℕ) (d : Argument)
    → i < length rows
    → IfOk new (λ it. IsTold it (command name (map rule_by (take i rows) ++ rule_by (get_or rows i d) ∷ [])))
    → IfOk new (λ it. IsTold it (command name (map rule_by (take (i + 1) rows))))
more_told new name rows i d within told = rw (take_more rows i d within, map-append) told

pub more_commands : {E : Type 0} (new : Result Command E) (app : App) (rows : List Subcommand) (i : ℕ) (d : Subcommand)
    → i < length rows
    → IfOk new (λ it. app_of it ≡ with_subcommand (fold with_subcommand app (map shape_by (take i rows)))
    (shape_by (get_or rows i d)))
    → IfOk new (λ it. app_of it ≡ fold with_subcommand app (map shape_by (take (i + 1) rows)))
more_commands new app rows i d within told = rw (take_more rows i d within, map-append, fold-append) told
