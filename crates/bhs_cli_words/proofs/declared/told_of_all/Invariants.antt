use Rattle.std.proofs.Common.{◌≡◌, IfOk, codes, fold, map, take}
use Rattle.clap.specs.Words.{app_of, with_subcommand}
use Rattle.bhs_cli_words.specs.Arguments.{program}
use Rattle.bhs_cli_words.specs.Told.{shape_by}
use Rattle.bhs_cli_words.proofs.declared.told_of_all.Given as goal

-- the program has the commands so far
abbrev pub invariant-loop-command : goal.invariant-loop-command
invariant-loop-command l =
    let so_far = map shape_by (take l.command-index l.commands) in
    IfOk l.line (λ line. app_of line ≡ fold with_subcommand (program (codes "arena")) so_far)
