use Rattle.std.proofs.Common.{refl}
use Rattle.bhs_cli_results.specs.ContestTables.{tables_contest, tables_nothing}
use Rattle.bhs_cli_results.proofs.contests.print_contest_table.Goals as goal

pub returns-in-Ok : goal.returns-in-Ok
returns-in-Ok g c =
    tables_contest c.in-Ok.lineup c.in-Ok.ensures.made (rw c.deref.ensures.value at c.print_matches.ensures)

pub returns-in-Err : goal.returns-in-Err
returns-in-Err g c = let (fault, is) = c.in-Err.ensures.fault in tables_nothing fault is refl
