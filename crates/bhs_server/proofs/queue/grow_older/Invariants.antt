use Rattle.bhs_server.proofs.WaitingLemmas.{HaveGrown}
use Rattle.bhs_server.proofs.queue.grow_older.Given as goal

abbrev pub invariant-loop-place : goal.invariant-loop-place
invariant-loop-place l = HaveGrown l.initial.clients l.clients l.place
