use Rattle.std.proofs.Common.{◌≡◌, Bool, true, ◌++◌, subst, if◌then◌else◌}
use Rattle.std.proofs.lemmas.Result.{err_from_is_err_and}
use Rattle.bhs_session.specs.Phase.{Phase, Ready, Awaits, Owes, answered_by, waiting, phase_of}
use Rattle.bhs_session.specs.Texts.{text_of}
use Rattle.bhs_session.specs.Moves.{Moves}
use Rattle.bhs_session.proofs.Moving.{Ends-trans, Moves-wrote}
use Rattle.bhs_session.proofs.Writing.{Wrote}
use Rattle.bhs_session.proofs.answers.answer.Goals as goal

pub returns-in_err-write_reply : goal.returns-in_err-write_reply
returns-in_err-write_reply g c p =
    let reply = c.args.reply in
    let stop = c.in_err-write_reply.field-0.0 in
    let start = record p {
      output = c.args.writer.now;
      port = c.args.port.now;
      phase = Owes (text_of reply)
          (answered_by true reply);
    } in
    let e = err_from_is_err_and c.from_residual.result c.from_residual.ensures.1 in
    rw (e.1, e.2) (
      c.in_err-write_reply.ensures.cause,
      (
        p.taken,
        Moves-wrote g.W.Output.takes g.P.Port.calls start _ (phase_of stop)
            (c.in_err-write_reply.ensures.sends true),
      ),
    )

pub returns-then-waits : goal.returns-then-waits
returns-then-waits g c p =
    let reply = c.args.reply in
    let start = record p {
      output = c.args.writer.now;
      port = c.args.port.now;
      phase = Owes (text_of reply)
          (answered_by true reply);
    } in
    let waits = subst (λ (b : Bool). waiting true reply ≡ if b then Awaits else Ready) c.if-waits.true
    c.waits_for_news-waits.ensures in
    let first : Moves g.W.Output.takes g.P.Port.calls start c.write_reply.new.writer c.args.port.now p.taken Awaits
    = Moves-wrote g.W.Output.takes g.P.Port.calls start _ Awaits
    (subst (λ (phase : Phase). Wrote g.W.Output.takes c.args.writer.now c.write_reply.new.writer
    (Owes (text_of reply) (answered_by true reply)) phase) waits (c.in_ok-write_reply.ensures.sends true)) in
    Ends-trans g.W.Output.takes g.P.Port.calls start _ _ c.args.port.now c.write_news.new.port p.taken p.taken Awaits
    (λ _. Ready) c.write_news.result first
    (c.write_news.ensures (record p { written = p.written ++ first.more }))

pub returns-else-waits : goal.returns-else-waits
returns-else-waits g c p =
    let reply = c.args.reply in
    let start = record p {
      output = c.args.writer.now;
      port = c.args.port.now;
      phase = Owes (text_of reply)
          (answered_by true reply);
    } in
    let goes_on = subst (λ (b : Bool). waiting true reply ≡ if b then Awaits else Ready) c.if-waits.false
    c.waits_for_news-waits.ensures in
    Moves-wrote g.W.Output.takes g.P.Port.calls start _ Ready
    (subst (λ (phase : Phase). Wrote g.W.Output.takes c.args.writer.now c.write_reply.new.writer
    (Owes (text_of reply) (answered_by true reply)) phase) goes_on (c.in_ok-write_reply.ensures.sends true))
