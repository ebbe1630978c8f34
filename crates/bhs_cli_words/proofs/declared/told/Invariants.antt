use Rattle.std.proofs.Common.{IfOk, map, take}
use Rattle.bhs_cli_words.specs.Arguments.{IsTold, command}
use Rattle.bhs_cli_words.specs.Told.{rule_by}
use Rattle.bhs_cli_words.proofs.declared.told.Given as goal

-- the command has the words and options so far
abbrev pub invariant-loop-argument : goal.invariant-loop-argument
invariant-loop-argument l =
    let so_far = take l.argument-index l.subcommand.arguments.now in
    IfOk l.command (λ told. IsTold told (command l.subcommand.name.now (map rule_by so_far)))
