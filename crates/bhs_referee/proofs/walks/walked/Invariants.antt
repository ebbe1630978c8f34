use Rattle.std.proofs.Common.{◌≡◌, ◌≤◌, drop}
use Rattle.bhs_referee.specs.Walks.{start, walk_from}
use Rattle.bhs_referee.proofs.walks.walked.Given as goal

abbrev pub invariant-loop-place : goal.invariant-loop-place
invariant-loop-place l = record {
  moves : l.walk.moves ≤ l.place;
  same : walk_from l.walk (drop l.place l.log) (drop l.place l.sites) ≡ walk_from start l.log l.sites;
}
