use Rattle.std.proofs.Common.{refl}
use Rattle.bhs_cli_results.specs.ContestTables.{tables_found, tables_none}
use Rattle.bhs_cli_results.proofs.contests.print_matches.Goals as goal

pub returns-in-Err : goal.returns-in-Err
returns-in-Err g c = let (fault, is) = c.in-Err.ensures.fault in tables_none fault is refl

pub returns : goal.returns
returns g c =
    tables_found c.in-Ok.found.rows.items c.in-Ok.found.status c.print_rows-printed.result c.in-Ok.ensures.found
    (rw c.deref.ensures.value at c.print_rows-printed.ensures) c.first_status.ensures
