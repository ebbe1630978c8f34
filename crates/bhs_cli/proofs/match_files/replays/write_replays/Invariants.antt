use Rattle.std.proofs.Common.{◌≡◌, ◌⊎◌, map}
use Rattle.std.specs.List.{AllByRecursion}
use Rattle.std.specs.Vec.Iter.{into_iter_items}
use Rattle.bhs_stream.specs.Streams.{known_takes}
use Rattle.bhs_rehearsal.specs.Rehearsing.{game_of}
use Rattle.bhs_cli.specs.Fault.{IsOfFault}
use Rattle.bhs_cli.specs.Filing.{IsFiled}
use Rattle.bhs_cli.specs.declared.reporting.statuses.TheConstants.{DONE}
use Rattle.bhs_cli.proofs.match_files.replays.write_replays.Given as goal

abbrev pub invariant-loop-one : goal.invariant-loop-one
invariant-loop-one g l = record {
  status : (l.status ≡ DONE) ⊎ IsOfFault l.status;
  filed : l.status ≡ DONE → AllByRecursion (IsFiled (known_takes g.F.File.Write.contents))
      (map game_of (into_iter_items l.one-iterator))
      → AllByRecursion (IsFiled (known_takes g.F.File.Write.contents)) (map game_of l.fn.ready.items);
}
