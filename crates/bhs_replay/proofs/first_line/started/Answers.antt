use Rattle.bhs_replay.proofs.OpeningLemmas.{no_net, no_setup, started_so}
use Rattle.bhs_replay.proofs.first_line.started.Goals as goal

pub returns-in-Err : goal.returns-in-Err
returns-in-Err c =
    no_net c.args.says.nodes c.args.says.links.items c.deref.result.now c.args.says.setup c.in-Err.fault
    c.deref.ensures.value c.in_ok-refused_network-in-Err.ensures c.in-Err.ensures.refused

pub returns-in-Ok-new : goal.returns-in-Ok-new
returns-in-Ok-new c =
    started_so c.args.says.nodes c.args.says.links.items c.deref.result.now c.args.says.setup c.in-Ok.net
    c.in-Ok-new.game c.deref.ensures.value c.in-Ok.ensures.made c.in-Ok-new.ensures.fit.0
    c.in-Ok-new.ensures.given

pub returns : goal.returns
returns c =
    no_setup c.args.says.nodes c.args.says.links.items c.deref.result.now c.args.says.setup c.in-Ok.net
    c.in-Err-new.fault c.deref.ensures.value c.in-Ok.ensures.made c.in_ok-refused_setup-in-Err-new.ensures
    c.in-Err-new.ensures.fault
