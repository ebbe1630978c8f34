use Rattle.std.proofs.Common.{ℕ, suc, ◌≡◌, ◌+◌, arith, subst, sym, slice_set}
use Rattle.bhs_server.specs.declared.queue.Known.{Known}
use Rattle.bhs_server.proofs.WaitingLemmas.{HaveGrown, one_grown}
use Rattle.bhs_server.proofs.queue.grow_older.Goals as goal

pub loop-place-preserved : goal.loop-place-preserved
loop-place-preserved c =
    let clients = c.loop-place.clients in
    let next : suc c.loop-place.place ≡ c.loop-place.place + 1 = omega arith in
    subst (λ (place : ℕ). HaveGrown c.args.clients.now (slice_set clients c.loop-place.place c.older.result) place) next
    (subst (λ (client : Known). HaveGrown c.args.clients.now (slice_set clients c.loop-place.place client)
    (suc c.loop-place.place)) (sym c.older.ensures)
    (one_grown c.args.clients.now clients c.loop-place.place _
    (omega (arith, c.loop-place-test.true, c.loop-place.auto.clients)) c.loop-place.auto.clients
    c.loop-place.invariant))
