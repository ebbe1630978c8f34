use Rattle.std.proofs.Common.{◌≡◌, ◌+◌, ◌++◌, drop, string_bytes}
use Rattle.bhs_standings.specs.Tables.{lines_from, table_of}
use Rattle.bhs_standings.proofs.text.table.Given as goal

abbrev pub invariant-loop-ahead : goal.invariant-loop-ahead
invariant-loop-ahead l = string_bytes l.text ++ lines_from (l.ahead + 1) l.rows (drop l.ahead l.place-items) ≡ table_of
    l.rows l.place-items
