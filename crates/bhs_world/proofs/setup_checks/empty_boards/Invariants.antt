use Rattle.std.proofs.Common.{◌≡◌, None, replicate}
use Rattle.bhs_world.proofs.setup_checks.empty_boards.Given as goal

abbrev pub invariant-loop : goal.invariant-loop
invariant-loop l = l.boards.items ≡ replicate l.counter (record { limit = l.limit; last = None })
