use Rattle.bhs_cli.specs.declared.reporting.faults.Fault.TheVariants.{Write}
use Rattle.bhs_cli_explore.specs.Discoveries.{exploration_ends}
use Rattle.bhs_cli_explore.proofs.explore.explore_match.Goals as goal

pub returns-in-Err-Write : goal.returns-in-Err-Write
returns-in-Err-Write g c = exploration_ends Write c.report.ensures

pub returns-in-Err : goal.returns-in-Err
returns-in-Err g c = exploration_ends c.in-Err.fault c.report-in-Err.ensures
