use Rattle.std.proofs.Common.{◌≡◌, ◌∙◌, ap, true, ◌∷◌, [], ◌++◌}
use Rattle.bhs_session.specs.declared.endings.Ended.TheVariants.{Memory}
use Rattle.bhs_session.specs.Port.{Tells, Answers, NoMemory}
use Rattle.bhs_session.specs.Phase.{Ready, Owes, Leaves, answered_by}
use Rattle.bhs_session.specs.Texts.{text_of}
use Rattle.bhs_session.specs.Session.{asks}
use Rattle.bhs_session.specs.Machine.{Asks, ask}
use Rattle.bhs_wire.specs.Lines.{said_by}
use Rattle.bhs_session.proofs.Moving.{Ends-step, Moves-step}
use Rattle.bhs_session.proofs.lines.take_later.Goals as goal

pub returns-in-Ok : goal.returns-in-Ok
returns-in-Ok g c p line next says =
    let start = record p { output = c.args.writer.now; port = c.args.port.now; phase = Ready } in
    let taken = p.taken ++ line ∷ [] in
    let reply = c.in-Ok.reply in
    let owes = Owes (text_of reply) (answered_by true reply) in
    let asks_it : ask Ready (said_by line) ≡ Asks (Tells c.command_in.result) =
    ap (ask Ready) says ∙ c.command_in.ensures in
    Ends-step g.W.Output.takes g.P.Port.calls _ start c.tell.new.self taken owes
    (asks start line (Tells c.command_in.result) (Answers reply) c.tell.new.self asks_it next c.in-Ok.ensures)
    (λ _. Ready) c.answer.new.port taken c.answer.result
    (λ w. c.answer.ensures (record p { taken = taken; written = w }))

pub returns-in-Err : goal.returns-in-Err
returns-in-Err g c p line next says =
    let start = record p { output = c.args.writer.now; port = c.args.port.now; phase = Ready } in
    let taken = p.taken ++ line ∷ [] in
    let asks_it : ask Ready (said_by line) ≡ Asks (Tells c.command_in.result) =
    ap (ask Ready) says ∙ c.command_in.ensures in (
      tt,
      (
        taken,
        Moves-step g.W.Output.takes g.P.Port.calls start c.tell.new.self taken (Leaves Memory)
            (asks start line (Tells c.command_in.result) NoMemory c.tell.new.self asks_it next c.in-Err.ensures),
      ),
    )
