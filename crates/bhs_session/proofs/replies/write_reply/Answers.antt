use Rattle.std.proofs.Common.{sym, ap, ◌∙◌}
use Rattle.bhs_session.specs.Phase.{waiting, ended_by}
use Rattle.bhs_session.specs.Texts.{text_of}
use Rattle.bhs_session.proofs.Writing.{Wrote-answer, Wrote-ending, Wrote-answer_but, Wrote-ending_but, stopped-waiting}
use Rattle.bhs_session.proofs.replies.write_reply.Goals as goal

pub returns-in-Ok-None-clause-sends : goal.returns-in-Ok-None-clause-sends
returns-in-Ok-None-clause-sends g c waits =
    let reply = c.args.reply in
    let whole = rw c.in-Ok-None.is-0 at c.send_reply.ensures.ok in
    Wrote-answer g.W.Output.takes _ _ (text_of reply) (waiting waits reply) (ended_by reply)
    (sym c.in-Ok-None.is-1 ∙ c.ending_of-ended.ensures ∙ ap ended_by c.of_reply.ensures) whole

pub returns-in-Ok-Some-clause-sends : goal.returns-in-Ok-Some-clause-sends
returns-in-Ok-Some-clause-sends g c waits =
    let reply = c.args.reply in
    let whole = rw c.in-Ok-Some.is-0 at c.send_reply.ensures.ok in
    Wrote-ending g.W.Output.takes _ _ (text_of reply) (waiting waits reply) (ended_by reply) c.in-Ok-Some.ended
    (sym c.in-Ok-Some.is-1 ∙ c.ending_of-ended.ensures ∙ ap ended_by c.of_reply.ensures) whole

pub returns-in-Err-None-clause-sends : goal.returns-in-Err-None-clause-sends
returns-in-Err-None-clause-sends g c waits =
    let reply = c.args.reply in
    Wrote-answer_but g.W.Output.takes _ _ (text_of reply) (waiting waits reply) (ended_by reply) c.in-Err-None.cause
    (sym c.in-Err-None.is-1 ∙ c.ending_of-ended.ensures ∙ ap ended_by c.of_reply.ensures)
    (stopped-waiting waits reply c.in-Err-None.cause) c.in-Err-None.ensures.err

pub returns-in-Err-Some-clause-sends : goal.returns-in-Err-Some-clause-sends
returns-in-Err-Some-clause-sends g c waits =
    let reply = c.args.reply in
    Wrote-ending_but g.W.Output.takes _ _ (text_of reply) (waiting waits reply) (ended_by reply) c.in-Err-Some.cause
    c.in-Err-Some.field-0-1
    (sym c.in-Err-Some.is-1 ∙ c.ending_of-ended.ensures ∙ ap ended_by c.of_reply.ensures) c.in-Err-Some.ensures.err
