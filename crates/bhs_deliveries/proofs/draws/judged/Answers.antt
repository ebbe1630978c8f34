use Rattle.bhs_match.specs.Matches.{state_of}
use Rattle.bhs_deliveries.specs.Links.{held_in}
use Rattle.bhs_deliveries.proofs.DrawLemmas.{draws_at}
use Rattle.bhs_deliveries.proofs.draws.judged.Goals as goal

pub returns-then-has : goal.returns-then-has
returns-then-has c = draws_at (held_in c.args.held.now) (state_of c.args.game.now) _ _ c.pool-pool.result.now
    (record { agent = 0; node = 0; port = 0 }) _ c.pool-pool.ensures c.if-closed.ensures c.in-Some.ensures.place
    c.if-has.ensures

pub returns-else-has : goal.returns-else-has
returns-else-has c = draws_at (held_in c.args.held.now) (state_of c.args.game.now) _ _ c.pool-pool.result.now
    (record { agent = 0; node = 0; port = 0 }) _ c.pool-pool.ensures c.if-closed.ensures c.in-Some.ensures.place
    c.if-has.ensures
