use Rattle.std.proofs.Common.{map, take}
use Rattle.bhs_cli_explore.specs.HoleResults.{IsReportOf}
use Rattle.bhs_cli_explore.specs.Holes.{TellsHoles}
use Rattle.bhs_cli.specs.declared.reporting.statuses.TheConstants.{DONE}
use Rattle.bhs_cli_explore.proofs.holes.HoleSearches.print_results.Given as goal

abbrev pub invariant-loop-found : goal.invariant-loop-found
invariant-loop-found g l =
    TellsHoles g.W.Output.takes g.W.Output.flushes (IsReportOf l.self.search) l.writer DONE
    (map (λ it. it.hole) (take l.found-index l.results)) l.fn.writer
