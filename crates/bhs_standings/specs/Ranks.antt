-- The order of a table of verdicts.
use Rattle.std.specs.Prelude.{ℕ, Bool, List, length, slice_get, string_bytes}
use Rattle.std.specs.List.{range_with_len}
use Rattle.std.specs.List.Sorted.{IsPermutation, IsSortedBy, IsStableBy}
use Rattle.std.specs.Ordering.{nat_cmp, is_lt, on, then_cmp}
use Rattle.std.specs.Option.{option_cmp}
use Rattle.std.specs.Cmp.Lexicographic.{slice_cmp}
use Rattle.std.specs.declared.cmp.Ordering.{Ordering}
use Rattle.bhs_referee.specs.declared.verdicts.Outcome.{Outcome}
use Rattle.bhs_referee.specs.declared.verdicts.Outcome.TheVariants.{Solved, Guess, Unfinished, Silent, Wrong}
use Rattle.bhs_standings.specs.declared.rows.Row.{Row}

-- the rank of an outcome, the best first
abbrev pub rank_of : Outcome → ℕ
rank_of Solved = 0
rank_of (Guess node) = 1
rank_of Unfinished = 2
rank_of Silent = 3
rank_of Wrong = 4

-- which of two rows comes first: by outcome, then by fewer moves, then by fewer lost agents, then by the team's bytes
abbrev pub compare : Row → Row → Ordering
compare = then_cmp (on (λ row. rank_of row.verdict.outcome) nat_cmp)
    (then_cmp (on (λ row. row.verdict.moves) nat_cmp)
    (then_cmp (on (λ row. row.verdict.lost) nat_cmp)
    (on (λ row. string_bytes row.team) (slice_cmp nat_cmp))))

-- the same of the rows at two places of a list; a place past its end comes before the others
abbrev pub compare_at : List Row → (one other : ℕ) → Ordering
compare_at rows one other = option_cmp compare (slice_get rows one) (slice_get rows other)

-- whether the row at a place comes before that at another
abbrev pub precedes : List Row → (one other : ℕ) → Bool
precedes rows one other = is_lt (compare_at rows one other)

-- The places are those of all rows, each once; none comes before the one ahead of it; and rows that tie stand in the
-- order of the list.
pub record IsRanking (rows : List Row) (places : List ℕ) : Type 0 where
  pub all : IsPermutation (range_with_len 0 (length rows)) places
  pub sorted : IsSortedBy (precedes rows) places
  pub stable : IsStableBy (precedes rows) (range_with_len 0 (length rows)) places
