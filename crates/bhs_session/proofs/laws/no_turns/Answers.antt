use Rattle.bhs_session.proofs.SessionLaws.{no_turns_lem}
use Rattle.bhs_session.proofs.laws.no_turns.Goals as goal

pub returns : goal.returns
returns g c from input output start p ended session is = no_turns_lem g.I.Input.gives g.O.Output.takes g.P.Port.calls
    from input output start p ended session is
