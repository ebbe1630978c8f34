use Rattle.std.proofs.Common.{refl, string_bytes}
use Rattle.bhs_stream.specs.Streams.{known_takes}
use Rattle.bhs_cli_serve.specs.Contests.{serves_on, refuses_contest}
use Rattle.bhs_cli_serve.proofs.ContestLemmas.{heard, unheard}
use Rattle.bhs_cli_serve.proofs.serve.serve_named.Goals as goal

pub returns-in-Err : goal.returns-in-Err
returns-in-Err g c = let (fault, is) = c.in-Err.ensures.fault in refuses_contest fault is refl

pub returns-in-Err-listener_on : goal.returns-in-Err-listener_on
returns-in-Err-listener_on g c = let (fault, is) = c.in-Err-listener_on.ensures in refuses_contest fault is refl

pub returns-in-Err-begun : goal.returns-in-Err-begun
returns-in-Err-begun g c = let (fault, is) = c.in-Err-begun.ensures in refuses_contest fault is refl

pub returns-then-status-ne-DONE : goal.returns-then-status-ne-DONE
returns-then-status-ne-DONE g c =
    unheard g.W.Output.takes g.W.Output.flushes c.args.hosting.now.port _ _ c.show_made-status.result
    (known_takes g.R.File.Write.contents) string_bytes c.in-Ok.lineup c.in-Ok.ensures.made
    c.if-status-ne-DONE.true c.listening.result c.listening.ensures c.show_made-status.ensures.shown
    c.show_made-status.ensures.lacks

pub returns : goal.returns
returns g c = serves_on c.in-Ok.lineup c.in-Ok.ensures.made c.show_made-status.new.writer
    (heard g.W.Output.takes g.W.Output.flushes c.args.hosting.now.port _ _ c.show_made-status.result string_bytes
    c.listening.result c.listening.ensures c.show_made-status.ensures.shown c.show_made-status.ensures.lacks
    c.if-status-ne-DONE.false)
    c.host.ensures
