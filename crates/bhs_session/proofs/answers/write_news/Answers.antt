use Rattle.std.proofs.Common.{false, refl}
use Rattle.bhs_session.specs.declared.endings.Ended.TheVariants.{Memory}
use Rattle.bhs_session.specs.Port.{Answers, NoMemory}
use Rattle.bhs_session.specs.Phase.{Ready, Awaits, Owes, Leaves, answered_by}
use Rattle.bhs_session.specs.Texts.{text_of}
use Rattle.bhs_session.specs.Session.{awaits}
use Rattle.bhs_session.proofs.Moving.{Ends-step, Ends-news, Moves-step}
use Rattle.bhs_session.proofs.answers.write_news.Goals as goal

pub returns-in-Ok : goal.returns-in-Ok
returns-in-Ok g c p =
    let news = c.in-Ok.news in
    let start = record p { output = c.args.writer.now; port = c.args.port.now; phase = Awaits } in
    let owes = Owes (text_of news) (answered_by false news) in
    Ends-step g.W.Output.takes g.P.Port.calls _ start c.news.new.self p.taken owes
    (awaits start (Answers news) c.news.new.self refl c.in-Ok.ensures)
    (λ _. Ready) c.news.new.self p.taken c.write_reply.result
    (λ w. Ends-news g.W.Output.takes g.P.Port.calls _
    (record p { output = c.args.writer.now; port = c.news.new.self; written = w; phase = owes }) news
    c.write_reply.result refl (c.write_reply.ensures.sends false) c.write_reply.ensures.cause)

pub returns-in-Err : goal.returns-in-Err
returns-in-Err g c p =
    let start = record p { output = c.args.writer.now; port = c.args.port.now; phase = Awaits } in (
      tt,
      (
        p.taken,
        Moves-step g.W.Output.takes g.P.Port.calls start c.news.new.self p.taken (Leaves Memory)
            (awaits start NoMemory c.news.new.self refl c.in-Err.ensures),
      ),
    )
