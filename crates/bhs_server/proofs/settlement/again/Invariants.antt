use Rattle.std.proofs.Common.{◌≡◌, map, take}
use Rattle.bhs_server.specs.Settling.{at_start}
use Rattle.bhs_server.proofs.settlement.again.Given as goal

abbrev pub invariant-loop-dealer : goal.invariant-loop-dealer
invariant-loop-dealer l = l.copies.items ≡ map at_start (take l.dealer-index l.dealers)
