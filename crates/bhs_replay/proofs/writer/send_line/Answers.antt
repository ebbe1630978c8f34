use Rattle.bhs_stream.specs.Sending.{begins}
use Rattle.bhs_replay.proofs.writer.send_line.Goals as goal

pub returns-in_default-clause-err : goal.returns-in_default-clause-err
returns-in_default-clause-err g c = λ line is. (0, begins)

pub returns-then-is_err-clause-err : goal.returns-then-is_err-clause-err
returns-then-is_err-clause-err g c = λ line is. (0, begins)
