use Rattle.bhs_session.specs.declared.endings.Ended.TheVariants.{Memory}
use Rattle.bhs_session.specs.Phase.{between, stopped}
use Rattle.bhs_session.specs.Session as session
use Rattle.bhs_session.proofs.Moving.{Moves-step, TakesLines-between, IsNext-some, StopsAtLines-of}
use Rattle.bhs_wire.specs.Lines.{seen}
use Rattle.bhs_session.proofs.lines.take_line.Goals as goal

pub returns-in_default : goal.returns-in_default
returns-in_default g c p next =
    let entered = c.args.has_entered in
    let start = record p { output = c.args.writer.now; port = c.args.port.now; phase = between entered } in (
      StopsAtLines-of c.between_lines.result entered Memory c.between_lines.ensures tt,
      (
        p.taken,
        rw c.between_lines.ensures (Moves-step g.W.Output.takes g.P.Port.calls start c.args.port.now p.taken
            (stopped (between entered) Memory)
            (session.lacks start (TakesLines-between entered)
            (IsNext-some p.read p.taken (seen c.args.line.now) next))),
      ),
    )
