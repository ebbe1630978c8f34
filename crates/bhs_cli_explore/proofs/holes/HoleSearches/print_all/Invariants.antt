use Rattle.std.proofs.Common.{◌<◌, length}
use Rattle.std.specs.List.{AllByRecursion}
use Rattle.bhs_net.specs.Network.{nodes_of}
use Rattle.bhs_cli_explore.specs.HoleResults.{IsReportOf}
use Rattle.bhs_cli_explore.proofs.TellLemmas.{Leaves}
use Rattle.bhs_cli_explore.proofs.holes.HoleSearches.print_all.Given as goal

abbrev pub invariant-loop-rest : goal.invariant-loop-rest
invariant-loop-rest g l =
    (0 < l.most) × AllByRecursion (λ hole. hole < nodes_of l.self.search.ready.now.game.net) l.rest
    × Leaves g.W.Output.takes g.W.Output.flushes (IsReportOf l.self.search) l.holes l.rest l.fn.writer l.writer

abbrev pub decreases-loop-rest : goal.decreases-loop-rest
decreases-loop-rest g l = length l.rest
