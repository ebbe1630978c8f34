use Rattle.std.proofs.lemmas.List.{take_all}
use Rattle.bhs_cli_words.proofs.ToldLemmas.{more_commands}
use Rattle.bhs_cli_words.proofs.declared.told_of_all.Goals as goal

pub loop-command-preserved : goal.loop-command-preserved
loop-command-preserved c =
    more_commands c.with_command-line.result _ c.args.commands.now c.loop-command.command-index _
    c.loop-command-test.true
    (c.with_command-line.ensures _ _ c.loop-command.invariant c.told.ensures)

pub returns : goal.returns
returns c =
    rw (take_all c.loop-command.command-index c.args.commands.now c.loop-command-test.false)
    at c.loop-command.invariant
