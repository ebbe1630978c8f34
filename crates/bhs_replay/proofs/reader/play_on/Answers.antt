use Rattle.std.proofs.Common.{inr}
use Rattle.bhs_replay.proofs.FeedLemmas.{fault_is}
use Rattle.bhs_replay.proofs.PlayLemmas.{past_end, on_line, on_fault}
use Rattle.bhs_replay.proofs.reader.play_on.Goals as goal

pub returns-then-playing-clause-err : goal.returns-then-playing-clause-err
returns-then-playing-clause-err c = inr (past_end c.args.line.now c.args.playing.now.game c.args.playing.now.is_over
    c.if-playing.true)

pub returns-in_err-playing-clause-err : goal.returns-in_err-playing-clause-err
returns-in_err-playing-clause-err c =
    fault_is c.from_residual.result c.in_err-playing.field-0.0 _ c.from_residual.ensures.1
    (on_fault c.args.line.now c.args.playing.now.game c.args.playing.now.is_over c.in_err-playing.field-0.0
    c.if-playing.false c.in_err-playing.ensures.err)

pub returns-clause-ok : goal.returns-clause-ok
returns-clause-ok c = on_line c.args.line.now c.args.playing.now.game c.args.playing.now.is_over _ c.if-playing.false
    c.in_ok-playing.ensures.ok
