use Rattle.std.proofs.Common.{◌≡◌, map, string_bytes, take}
use Rattle.bhs_contest.proofs.table.rows_of.Given as goal

abbrev pub invariant-loop-place : goal.invariant-loop-place
invariant-loop-place l = record {
  named : map (λ row. string_bytes row.team) l.rows.items ≡ take l.place l.teams;
  judged : map (λ row. row.verdict) l.rows.items ≡ take l.place l.verdicts;
}
