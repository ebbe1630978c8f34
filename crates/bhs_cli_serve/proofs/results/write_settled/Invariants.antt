use Rattle.std.proofs.Common.{◌≡◌, ◌⊎◌, drop}
use Rattle.std.specs.List.{AllByRecursion}
use Rattle.bhs_stream.specs.Streams.{known_takes}
use Rattle.bhs_cli.specs.Fault.{IsOfFault}
use Rattle.bhs_cli.specs.declared.reporting.statuses.TheConstants.{DONE}
use Rattle.bhs_cli_serve.specs.Contests.{HasReplay}
use Rattle.bhs_cli_serve.proofs.results.write_settled.Given as goal

abbrev pub invariant-loop-number : goal.invariant-loop-number
invariant-loop-number g l = record {
  status : (l.status ≡ DONE) ⊎ IsOfFault l.status;
  filed : l.status ≡ DONE
      → AllByRecursion (HasReplay (known_takes g.F.File.Write.contents) l.schedule) (drop l.number l.settled)
      → AllByRecursion (HasReplay (known_takes g.F.File.Write.contents) l.schedule) l.settled;
}
