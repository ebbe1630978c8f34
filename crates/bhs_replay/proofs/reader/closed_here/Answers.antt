use Rattle.bhs_replay.proofs.PartLemmas.{no_err, is_closed_play}
use Rattle.bhs_replay.proofs.reader.closed_here.Goals as goal

pub unreachable-requires : goal.unreachable-requires
unreachable-requires c =
    no_err c.args.game c.apply.new.self c.in-Err.field-0 c.apply.result.mark c.sealed.result c.apply.ensures.log
    c.apply.ensures.same c.sealed.ensures c.in-Err.is

pub returns : goal.returns
returns c =
    let closed = is_closed_play c.args.game c.apply.new.self c.in-Ok.sealed c.apply.result.mark c.sealed.result
    c.apply.ensures.log c.apply.ensures.same c.sealed.ensures c.in-Ok.is in
    (closed.net, closed.setup, closed.events)
