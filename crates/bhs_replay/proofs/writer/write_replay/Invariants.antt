use Rattle.std.proofs.Common.{drop}
use Rattle.bhs_stream.proofs.PutsLemmas.{IsSentUpTo}
use Rattle.bhs_replay.specs.Replay.{replay_of}
use Rattle.bhs_replay.proofs.ReplayTexts.{left_of}
use Rattle.bhs_replay.proofs.ReadBack.{AreTypedUpTo}
use Rattle.bhs_replay.proofs.writer.write_replay.Given as goal

abbrev pub invariant-loop-one : goal.invariant-loop-one
invariant-loop-one g l = IsSentUpTo g.W.Output.takes l.fn.writer l.writer (replay_of l.sealed)
    (left_of l.log (drop l.one-index l.log)) × AreTypedUpTo l.log l.one-index
