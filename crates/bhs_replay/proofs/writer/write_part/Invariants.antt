use Rattle.bhs_replay.specs.Replay.{replay_of_part}
use Rattle.bhs_replay.proofs.PartTexts.{IsSentBefore}
use Rattle.bhs_replay.proofs.writer.write_part.Given as goal

abbrev pub invariant-loop-place : goal.invariant-loop-place
invariant-loop-place g l =
    IsSentBefore g.W.Output.takes (replay_of_part l.start.net l.start.setup l.sealed.log l.places) l.log l.places
    l.fn.writer l.writer l.count l.place
