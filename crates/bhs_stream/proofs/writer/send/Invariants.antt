-- The bytes up to `sent` went out.
use Rattle.std.proofs.Common.{◌-◌, ◌≤◌, length}
use Rattle.bhs_stream.specs.Sending.{Puts}
use Rattle.bhs_stream.proofs.writer.send.Given as goal

abbrev pub invariant-loop-sent : goal.invariant-loop-sent
invariant-loop-sent g l = (l.sent ≤ length l.bytes) × Puts g.W.Output.takes l.initial.writer l.bytes l.sent l.writer

abbrev pub decreases-loop-sent : goal.decreases-loop-sent
decreases-loop-sent g l = length l.bytes - l.sent
