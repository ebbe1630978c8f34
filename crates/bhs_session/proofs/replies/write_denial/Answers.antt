use Rattle.bhs_session.specs.Phase.{Finished}
use Rattle.bhs_session.specs.Texts.{denial_text}
use Rattle.bhs_session.specs.declared.endings.Ended.TheVariants.{Denied, WriteFault}
use Rattle.bhs_session.proofs.Writing.{Wrote-all, Wrote-but}
use Rattle.bhs_session.proofs.replies.write_denial.Goals as goal

pub returns-in-Ok-clause-sends : goal.returns-in-Ok-clause-sends
returns-in-Ok-clause-sends g c = Wrote-all g.W.Output.takes _ _ (denial_text c.args.denial) (Finished Denied)
    c.in-Ok.ensures.ok

pub returns-in-Err-clause-sends : goal.returns-in-Err-clause-sends
returns-in-Err-clause-sends g c = Wrote-but g.W.Output.takes WriteFault _ _ (denial_text c.args.denial)
    (Finished Denied) c.in-Err.ensures.err
