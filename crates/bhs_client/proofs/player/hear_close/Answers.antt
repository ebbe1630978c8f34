use Rattle.bhs_client.specs.Talks.{stuck}
use Rattle.bhs_client.proofs.player.hear_close.Goals as goal

pub returns-then-not-is_over-clause-broken : goal.returns-then-not-is_over-clause-broken
returns-then-not-is_over-clause-broken g c =
    let heard = c.in_ok-reply.ensures.heard in stuck heard.0 c.hear.new.connection heard.2
