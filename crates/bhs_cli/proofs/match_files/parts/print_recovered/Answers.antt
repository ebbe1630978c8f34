use Rattle.std.proofs.Common.{refl}
use Rattle.bhs_cli.specs.Showing.{stops}
use Rattle.bhs_cli.proofs.match_files.parts.print_recovered.Goals as goal

pub returns-in-Err : goal.returns-in-Err
returns-in-Err g c = stops c.in-Err.fault c.report_with_cause.ensures refl
