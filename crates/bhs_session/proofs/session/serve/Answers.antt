use Rattle.bhs_session.specs.Port.{answered}
use Rattle.bhs_session.proofs.Playing.{Serves-leaves}
use Rattle.bhs_session.proofs.session.serve.Goals as goal

pub returns-in-Leaves : goal.returns-in-Leaves
returns-in-Leaves g c =
    Serves-leaves g.R.Input.gives g.W.Output.takes g.P.Port.calls _ _ _ _ c.args.port.now c.take_all_lines.new.port
    c.tell.new.self c.args.turns c.in-Leaves.ended (answered c.tell.result) c.in-Leaves.ensures c.tell.ensures
