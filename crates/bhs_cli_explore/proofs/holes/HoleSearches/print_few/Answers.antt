use Rattle.bhs_cli.specs.declared.reporting.faults.Fault.TheVariants.{Memory}
use Rattle.bhs_cli_explore.specs.HoleResults.{IsReportOf}
use Rattle.bhs_cli_explore.proofs.TellLemmas.{told_none}
use Rattle.bhs_cli_explore.proofs.holes.HoleSearches.print_few.Goals as goal

pub returns-in-Err : goal.returns-in-Err
returns-in-Err g c = told_none g.W.Output.takes g.W.Output.flushes (IsReportOf c.args.self.now.search) c.args.holes.now
    Memory c.args.writer.now c.report.result c.requires.some c.report.ensures
