-- The order of rows is an order.
use Rattle.std.proofs.Common.{◌≡◌, ◌∙◌, ap, subst, ℕ, List, length}
use Rattle.std.specs.List.{range_with_len}
use Rattle.std.specs.List.Sorted.{IsPermutation, IsSortedBy, IsStableBy}
use Rattle.std.specs.Prelude.{slice_get, string_bytes}
use Rattle.std.specs.Cmp.{IsTotalOrder, IsStrictWeakOrder, nat_cmp_total, on_total, then_total}
use Rattle.std.specs.Cmp.Lexicographic.{on_texts, options_total}
use Rattle.std.proofs.lemmas.List.Sorted.{ranks_by}
use Rattle.bhs_standings.specs.declared.rows.Row.{Row}
use Rattle.bhs_standings.specs.Ranks.{rank_of, compare, precedes, IsRanking}

compare_total : IsTotalOrder compare
compare_total = then_total (on_total (λ (row : Row). rank_of row.verdict.outcome) nat_cmp_total)
    (then_total (on_total (λ (row : Row). row.verdict.moves) nat_cmp_total)
    (then_total (on_total (λ (row : Row). row.verdict.lost) nat_cmp_total)
    (on_texts (λ (row : Row). string_bytes row.team))))

pub precedes_orders : (rows : List Row) → IsStrictWeakOrder (precedes rows)
precedes_orders rows = ranks_by (options_total compare_total) (slice_get rows)

pub ranking_of : (rows : List Row) (before places : List ℕ) (n : ℕ) → n ≡ length rows → before ≡ range_with_len 0 n
    → IsPermutation before places → IsSortedBy (precedes rows) places → IsStableBy (precedes rows) before places
    → IsRanking rows places
ranking_of rows before places n all same moved sorted stable =
    let from : before ≡ range_with_len 0 (length rows) = same ∙ ap (range_with_len 0) all in
    record {
      all = subst (λ (list : List ℕ). IsPermutation list places) from moved;
      sorted = sorted;
      stable = subst (λ (list : List ℕ). IsStableBy (precedes rows) list places) from stable;
    }
