use Rattle.std.proofs.Common.{◌≡◌, ◌≤◌}
use Rattle.std.specs.Prelude.{count_by}
use Rattle.std.specs.List.{range_with_len}
use Rattle.bhs_model.specs.Kept.{lost}
use Rattle.bhs_model.specs.Marks.{events_of}
use Rattle.bhs_match.specs.Matches.{world_in}
use Rattle.bhs_referee.proofs.looks.lost.Given as goal

abbrev pub invariant-loop-agent : goal.invariant-loop-agent
invariant-loop-agent l = record {
  few : l.lost ≤ l.agent;
  count : l.lost ≡ count_by (lost (world_in l.sealed) (events_of l.sealed.log)) (range_with_len 0 l.agent);
}
