use Rattle.bhs_cli.specs.Showing.{cut_off}
use Rattle.bhs_cli.proofs.streams.line_by_line.passed_on.Goals as goal

pub returns-in-Err : goal.returns-in-Err
returns-in-Err g c = λ start text ok err. cut_off c.in-Err.fault c.report.ensures (rw c.in-Err.is at err)
