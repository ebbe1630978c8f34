use Rattle.bhs_stream.specs.Sending.{begins}
use Rattle.bhs_cli.specs.declared.reporting.faults.Fault.TheVariants.{Memory}
use Rattle.bhs_cli.proofs.StopLemmas.{fault_is}
use Rattle.bhs_cli_results.proofs.explain.write_past.Goals as goal

pub returns-in_err-places-clause-err : goal.returns-in_err-places-clause-err
returns-in_err-places-clause-err g c = fault_is c.from_residual.result Memory _ c.from_residual.ensures.1 (0, begins)
