use Rattle.std.proofs.Common.{◌++◌, sym, ap, ◌∙◌}
use Rattle.std.proofs.lemmas.Result.{on_ok_weaker}
use Rattle.bhs_replay.specs.EventLine.{event_line, reply_part}
use Rattle.bhs_replay.proofs.lines.add_event.Goals as goal

pub returns-in_ok-add_number-in-Deliver : goal.returns-in_ok-add_number-in-Deliver
returns-in_ok-add_number-in-Deliver c = λ reply. on_ok_weaker c.add-in-Deliver-2.result (λ last.
    last ∙ c.in_ok-add_number-in-Deliver.ensures _ ∙ c.in_ok-add-in-Deliver.ensures _
    ∙ ap (λ event. c.args.text.now.items ++ event_line event reply) (sym c.in-Deliver.is))
    (c.add-in-Deliver-2.ensures (reply_part reply))

pub returns-in-Close : goal.returns-in-Close
returns-in-Close c = λ reply. on_ok_weaker c.add-in-Close.result (λ last.
    last ∙ ap (λ event. c.args.text.now.items ++ event_line event reply) (sym c.in-Close.is))
    (c.add-in-Close.ensures (reply_part reply))
