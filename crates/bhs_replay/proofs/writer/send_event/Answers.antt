use Rattle.bhs_stream.specs.Sending.{begins}
use Rattle.bhs_replay.proofs.writer.send_event.Goals as goal

pub returns-then-is_err-clause-err : goal.returns-then-is_err-clause-err
returns-then-is_err-clause-err g c = (0, begins)
