use Rattle.std.proofs.Common.{◌≡◌, length, drop}
use Rattle.bhs_view.specs.Walks.{footprints_at}
use Rattle.bhs_view.proofs.ClosedLemmas.{IsJudged}
use Rattle.bhs_view.proofs.restriction.unclosed.Given as goal

abbrev pub invariant-loop-place : goal.invariant-loop-place
invariant-loop-place l = record {
  agents : length l.needed.agents ≡ length l.fn.needed.agents;
  nodes : length l.needed.nodes ≡ length l.fn.needed.nodes;
  judged : IsJudged l.needed l.place (drop l.place (footprints_at l.log l.sites)) (drop l.place l.set) l.least;
}
