use Rattle.std.proofs.Common.{◌≡◌, length}
use Rattle.bhs_standings.proofs.showcase.Showcase.new.Given as goal

abbrev pub invariant-loop : goal.invariant-loop
invariant-loop l = length l.cells.items ≡ l.counter
