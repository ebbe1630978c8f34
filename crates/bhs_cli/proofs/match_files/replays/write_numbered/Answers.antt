use Rattle.std.proofs.Common.{inr}
use Rattle.bhs_cli.specs.declared.reporting.faults.Fault.TheVariants.{Memory}
use Rattle.bhs_cli.proofs.match_files.replays.write_numbered.Goals as goal

pub returns-in_default-clause-status : goal.returns-in_default-clause-status
returns-in_default-clause-status g c = inr (Memory, c.report.ensures)
