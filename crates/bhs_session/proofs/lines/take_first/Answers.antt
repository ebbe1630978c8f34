use Rattle.std.proofs.Common.{◌∙◌, ap, true, ◌∷◌, [], ◌++◌}
use Rattle.bhs_session.specs.declared.endings.Ended.TheVariants.{Memory}
use Rattle.bhs_session.specs.declared.port.Entered.TheVariants as entries
use Rattle.bhs_wire.specs.declared.denials.Denial.TheVariants as denials
use Rattle.bhs_session.specs.Port.{Enters, LetIn, NoMemory}
use Rattle.bhs_session.specs.Phase.{Fresh, Ready, Owes, Finished, answered_by, denied}
use Rattle.bhs_session.specs.Texts.{text_of}
use Rattle.bhs_session.specs.Session.{asks, denies}
use Rattle.bhs_session.specs.Machine.{ask}
use Rattle.bhs_session.proofs.Moving.{Ends-step, Stops-step, Moves-step}
use Rattle.bhs_session.proofs.lines.take_first.Goals as goal

pub returns-in-Err : goal.returns-in-Err
returns-in-Err g c p line next says =
    let start = record p { output = c.args.writer.now; port = c.args.port.now; phase = Fresh } in
    let taken = p.taken ++ line ∷ [] in (
      c.write_denial.ensures.cause,
      (
        taken,
        Stops-step g.W.Output.takes g.P.Port.calls _ start c.args.port.now taken (denied c.in-Err.denial)
            (denies start line c.in-Err.denial (ap (ask Fresh) says ∙ c.in-Err.ensures.denial) next)
            c.write_denial.result c.write_denial.ensures.sends,
      ),
    )

pub returns-in-Ok-In : goal.returns-in-Ok-In
returns-in-Ok-In g c p line next says =
    let start = record p { output = c.args.writer.now; port = c.args.port.now; phase = Fresh } in
    let taken = p.taken ++ line ∷ [] in
    let reply = c.in-Ok-In.reply in
    let owes = Owes (text_of reply) (answered_by true reply) in
    let asked = rw (c.as_str.ensures, c.in-Ok-In.field-0-is) at c.in-Ok-In.ensures in
    Ends-step g.W.Output.takes g.P.Port.calls _ start c.enter.new.self taken owes
    (asks start line (Enters c.in-Ok.key) (LetIn (entries.In reply)) c.enter.new.self
    (ap (ask Fresh) says ∙ c.in-Ok.ensures.key) next asked)
    (λ _. Ready) c.answer.new.port taken c.answer.result
    (λ w. c.answer.ensures (record p { taken = taken; written = w }))

pub returns-in-Ok-Key : goal.returns-in-Ok-Key
returns-in-Ok-Key g c p line next says =
    let start = record p { output = c.args.writer.now; port = c.args.port.now; phase = Fresh } in
    let taken = p.taken ++ line ∷ [] in
    let asked = rw (c.as_str.ensures, c.in-Ok-Key.field-0-is) at c.in-Ok-Key.ensures in (
      c.write_denial-in-Ok-Key.ensures.cause,
      (
        taken,
        Stops-step g.W.Output.takes g.P.Port.calls _ start c.enter.new.self taken (denied denials.Key)
            (asks start line (Enters c.in-Ok.key) (LetIn entries.Key) c.enter.new.self
            (ap (ask Fresh) says ∙ c.in-Ok.ensures.key) next asked)
            c.write_denial-in-Ok-Key.result c.write_denial-in-Ok-Key.ensures.sends,
      ),
    )

pub returns-in-Ok-Taken : goal.returns-in-Ok-Taken
returns-in-Ok-Taken g c p line next says =
    let start = record p { output = c.args.writer.now; port = c.args.port.now; phase = Fresh } in
    let taken = p.taken ++ line ∷ [] in
    let asked = rw (c.as_str.ensures, c.in-Ok-Taken.field-0-is) at c.in-Ok-Taken.ensures in (
      c.write_denial-in-Ok-Taken.ensures.cause,
      (
        taken,
        Stops-step g.W.Output.takes g.P.Port.calls _ start c.enter.new.self taken (denied denials.Taken)
            (asks start line (Enters c.in-Ok.key) (LetIn entries.Taken) c.enter.new.self
            (ap (ask Fresh) says ∙ c.in-Ok.ensures.key) next asked)
            c.write_denial-in-Ok-Taken.result c.write_denial-in-Ok-Taken.ensures.sends,
      ),
    )

pub returns : goal.returns
returns g c p line next says =
    let start = record p { output = c.args.writer.now; port = c.args.port.now; phase = Fresh } in
    let taken = p.taken ++ line ∷ [] in
    let asked = rw c.as_str.ensures at c.in-Err-enter.ensures in (
      tt,
      (
        taken,
        Moves-step g.W.Output.takes g.P.Port.calls start c.enter.new.self taken (Finished Memory)
            (asks start line (Enters c.in-Ok.key) NoMemory c.enter.new.self
            (ap (ask Fresh) says ∙ c.in-Ok.ensures.key) next asked),
      ),
    )
