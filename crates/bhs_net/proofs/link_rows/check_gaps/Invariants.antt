use Rattle.std.proofs.Common.{map}
use Rattle.bhs_net.proofs.Gaps.{LeastBeyond, IsSeen}
use Rattle.bhs_net.proofs.link_rows.check_gaps.Given as goal

abbrev pub invariant-loop-link : goal.invariant-loop-link
invariant-loop-link l = LeastBeyond (IsSeen l.links l.link-index) (map (λ row. row.items) l.rows) l.least
