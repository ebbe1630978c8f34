use Rattle.std.proofs.Common.{◌≡◌, replicate}
use Rattle.bhs_rehearsal.specs.Connections.{unfed}
use Rattle.bhs_rehearsal.proofs.rehearsals.no_connections.Given as goal

abbrev pub invariant-loop : goal.invariant-loop
invariant-loop l = l.connections.items ≡ replicate l.counter unfed
