use Rattle.std.proofs.Common.{inr}
use Rattle.bhs_cli.specs.declared.reporting.faults.Fault.TheVariants.{Memory}
use Rattle.bhs_cli_run.proofs.words.words_of.Goals as goal

pub returns-in-Err-clause-status : goal.returns-in-Err-clause-status
returns-in-Err-clause-status g c = inr (inr (Memory, c.report.ensures))

pub returns-then-is_err-clause-status : goal.returns-then-is_err-clause-status
returns-then-is_err-clause-status g c = inr (inr (Memory, c.report-then-is_err.ensures))
