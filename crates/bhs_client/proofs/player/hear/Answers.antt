use Rattle.std.proofs.Common.{string_bytes}
use Rattle.bhs_wire.proofs.Reading.{on_err}
use Rattle.bhs_client.specs.Talks.{lost, stuck}
use Rattle.bhs_client.proofs.player.hear.Goals as goal

pub returns-in_err-line-clause-broken : goal.returns-in_err-line-clause-broken
returns-in_err-line-clause-broken g c = on_err c.from_residual.result (lost c.hear.new.self c.in_err-line.ensures.lost)

pub returns-in_err-reply-clause-broken : goal.returns-in_err-reply-clause-broken
returns-in_err-reply-clause-broken g c = on_err c.from_residual-in_err-reply.result
    (stuck (string_bytes c.in_ok-line.line) c.hear.new.self c.in_ok-line.ensures.heard)

pub returns-clause-broken : goal.returns-clause-broken
returns-clause-broken g c = stuck (string_bytes c.in_ok-line.line) c.hear.new.self c.in_ok-line.ensures.heard
