use Rattle.std.proofs.Common.{◌≡◌, ◌+◌, length, drop}
use Rattle.bhs_view.specs.Walks.{footprints_at}
use Rattle.bhs_view.proofs.BackLemmas.{IsBack}
use Rattle.bhs_view.proofs.cuts.walk_back.Given as goal

abbrev pub invariant-loop-place : goal.invariant-loop-place
invariant-loop-place l = record {
  agents : length l.needed.agents ≡ length l.fn.needed.agents;
  nodes : length l.needed.nodes ≡ length l.fn.needed.nodes;
  looks : l.looks + l.place ≡ length l.log;
  back : IsBack l.needed l.agent l.place (drop l.place (footprints_at l.log l.sites)) l.places.items;
}
