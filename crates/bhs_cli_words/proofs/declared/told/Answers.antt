use Rattle.std.proofs.lemmas.List.{take_all}
use Rattle.bhs_cli_words.proofs.ToldLemmas.{more_told}
use Rattle.bhs_cli_words.proofs.declared.told.Goals as goal

pub loop-argument-preserved : goal.loop-argument-preserved
loop-argument-preserved c =
    more_told c.with-command.result _ c.args.subcommand.now.arguments.now c.loop-argument.argument-index _
    c.loop-argument-test.true
    (c.with-command.ensures _ _ _ c.loop-argument.invariant c.arg.ensures.rule c.arg.ensures.local)

pub returns : goal.returns
returns c =
    rw (take_all c.loop-argument.argument-index c.args.subcommand.now.arguments.now c.loop-argument-test.false)
    at c.loop-argument.invariant
