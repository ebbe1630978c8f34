use Rattle.std.proofs.Common.{inl, refl}
use Rattle.bhs_cli.specs.Showing.{stops}
use Rattle.bhs_cli_results.proofs.twin.print_twin.Goals as goal

pub returns-in-Err : goal.returns-in-Err
returns-in-Err g c = let (fault, is) = c.in-Err.ensures.fault in inl (stops fault is refl)
