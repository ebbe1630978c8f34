use Rattle.std.proofs.Common.{take}
use Rattle.bhs_cli_results.specs.ContestTables.{AreFound}
use Rattle.bhs_cli_results.proofs.contests.found_of.Given as goal

abbrev pub invariant-loop-number : goal.invariant-loop-number
invariant-loop-number g l = AreFound (take l.number l.ready) l.rows.items l.status
