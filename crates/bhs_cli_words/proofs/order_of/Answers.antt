use Rattle.std.proofs.Common.{Some, map}
use Rattle.bhs_cli_words.specs.declared.Parsed.TheVariants.{Ordered, Refused}
use Rattle.bhs_cli_words.proofs.AnswerLemmas.{all_plainly, error_answered, free_here, kind_here, order_same, plainly}
use Rattle.bhs_cli_words.proofs.AnswerLemmas.{refused_here, simple_here}
use Rattle.bhs_cli_words.proofs.order_of.Goals as goal

pub returns-in-Some-clause-answers : goal.returns-in-Some-clause-answers
returns-in-Some-clause-answers g c =
    let words = map g.S.AsStr.text c.args.words.now in
    let line = c.in_ok-command.ensures in
    order_same _ line words _ (Some c.in-Some.order) (c.in-Ok.ensures.kinds (free_here _ line words))
    (c.in-Ok.ensures.matches (simple_here _ line words)).1
    (rw c.in-Some.is at c.in_ok-order-in-Ok.ensures)

pub returns-in-Some-clause-plain : goal.returns-in-Some-clause-plain
returns-in-Some-clause-plain g c = (plainly (map g.S.AsStr.text c.args.words.now) (Ordered c.in-Some.order)
    (returns-in-Some-clause-answers g c)).plain

pub returns-in-Some-clause-help : goal.returns-in-Some-clause-help
returns-in-Some-clause-help g c = (plainly (map g.S.AsStr.text c.args.words.now) (Ordered c.in-Some.order)
    (returns-in-Some-clause-answers g c)).help

pub returns-in-Some-clause-version : goal.returns-in-Some-clause-version
returns-in-Some-clause-version g c = (plainly (map g.S.AsStr.text c.args.words.now) (Ordered c.in-Some.order)
    (returns-in-Some-clause-answers g c)).version

pub returns-in-Some-clause-no_word : goal.returns-in-Some-clause-no_word
returns-in-Some-clause-no_word g c = (plainly (map g.S.AsStr.text c.args.words.now) (Ordered c.in-Some.order)
    (returns-in-Some-clause-answers g c)).no_word

pub returns-in-Ok-clause-answers : goal.returns-in-Ok-clause-answers
returns-in-Ok-clause-answers g c =
    let words = map g.S.AsStr.text c.args.words.now in
    let line = c.in_ok-command.ensures in
    refused_here _ line words _ (c.in-Ok.ensures.kinds (free_here _ line words))
    (c.in-Ok.ensures.matches (simple_here _ line words)).1
    (rw c.in-None.is at c.in_ok-order-in-Ok.ensures)

pub returns-in-Ok-clause-plain : goal.returns-in-Ok-clause-plain
returns-in-Ok-clause-plain g c = (plainly (map g.S.AsStr.text c.args.words.now)
    (Refused c.in_ok-unfit_text-in-None.field-0) (returns-in-Ok-clause-answers g c)).plain

pub returns-in-Ok-clause-help : goal.returns-in-Ok-clause-help
returns-in-Ok-clause-help g c = (plainly (map g.S.AsStr.text c.args.words.now)
    (Refused c.in_ok-unfit_text-in-None.field-0) (returns-in-Ok-clause-answers g c)).help

pub returns-in-Ok-clause-version : goal.returns-in-Ok-clause-version
returns-in-Ok-clause-version g c = (plainly (map g.S.AsStr.text c.args.words.now)
    (Refused c.in_ok-unfit_text-in-None.field-0) (returns-in-Ok-clause-answers g c)).version

pub returns-clause-answers : goal.returns-clause-answers
returns-clause-answers g c =
    let words = map g.S.AsStr.text c.args.words.now in
    let line = c.in_ok-command.ensures in
    error_answered c.explained.result _ words
    (kind_here _ line words _ (c.in-Err.ensures.kinds (free_here _ line words))) c.explained.ensures.ok
    c.explained.ensures.memory

pub returns-clause-plain : goal.returns-clause-plain
returns-clause-plain g c = (all_plainly c.explained.result (map g.S.AsStr.text c.args.words.now)
    (returns-clause-answers g c)).0

pub returns-clause-help : goal.returns-clause-help
returns-clause-help g c = (all_plainly c.explained.result (map g.S.AsStr.text c.args.words.now)
    (returns-clause-answers g c)).1

pub returns-clause-version : goal.returns-clause-version
returns-clause-version g c = (all_plainly c.explained.result (map g.S.AsStr.text c.args.words.now)
    (returns-clause-answers g c)).2

pub returns-clause-no_word : goal.returns-clause-no_word
returns-clause-no_word g c = (all_plainly c.explained.result (map g.S.AsStr.text c.args.words.now)
    (returns-clause-answers g c)).3
