use Rattle.bhs_protocols_charts.specs.Programs as programs
use Rattle.bhs_protocols_charts.proofs.agent.after.Goals as goal

pub returns-in_ok-after_leaving-in-GoesOut-clause-held :
    goal.returns-in_ok-after_leaving-in-GoesOut-clause-held
returns-in_ok-after_leaving-in-GoesOut-clause-held c =
    rw c.in-GoesOut.is
    (c.in_ok-after_leaving-in-GoesOut.ensures c.args.known.nodes (programs.tells_of c.args.known.told))

pub returns-in-Names-clause-held : goal.returns-in-Names-clause-held
returns-in-Names-clause-held c =
    rw c.in-Names.is (c.after_naming.ensures c.args.known.nodes (programs.tells_of c.args.known.told))

pub returns-in_ok-after_returning-in-GoesBack-clause-held :
    goal.returns-in_ok-after_returning-in-GoesBack-clause-held
returns-in_ok-after_returning-in-GoesBack-clause-held c =
    rw c.in-GoesBack.is
    (c.in_ok-after_returning-in-GoesBack.ensures c.args.known.nodes (programs.tells_of c.args.known.told))

pub returns-in-GoesToAccuse-clause-held : goal.returns-in-GoesToAccuse-clause-held
returns-in-GoesToAccuse-clause-held c =
    rw c.in-GoesToAccuse.is (c.after_nearing.ensures c.args.known.nodes (programs.tells_of c.args.known.told))
