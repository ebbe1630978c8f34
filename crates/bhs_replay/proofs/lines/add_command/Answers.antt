use Rattle.std.proofs.Common.{◌++◌, sym, ap, ◌∙◌}
use Rattle.std.proofs.lemmas.Result.{on_ok_weaker}
use Rattle.bhs_replay.specs.EventLine.{said}
use Rattle.bhs_replay.proofs.lines.add_command.Goals as goal

pub returns-in-Write : goal.returns-in-Write
returns-in-Write c = λ more. rw c.in-Write.is (rw (c.as_str.ensures, c.as_str-in-Write.ensures) at
    (c.add_write.ensures more))

pub returns-in_ok-add-in-Depart : goal.returns-in_ok-add-in-Depart
returns-in_ok-add-in-Depart c = λ more. on_ok_weaker c.add_number.result (λ last.
    last ∙ c.in_ok-add-in-Depart.ensures _
    ∙ ap (λ command. c.args.text.now.items ++ (said command ++ more)) (sym c.in-Depart.is))
    (c.add_number.ensures more)

pub returns-in_ok-add-in-Accuse : goal.returns-in_ok-add-in-Accuse
returns-in_ok-add-in-Accuse c = λ more. on_ok_weaker c.add_number-in-Accuse.result (λ last.
    last ∙ c.in_ok-add-in-Accuse.ensures _
    ∙ ap (λ command. c.args.text.now.items ++ (said command ++ more)) (sym c.in-Accuse.is))
    (c.add_number-in-Accuse.ensures more)
