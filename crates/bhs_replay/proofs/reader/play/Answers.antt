use Rattle.std.proofs.Common.{inr}
use Rattle.bhs_replay.proofs.PlayLemmas.{opens_match, opens_none}
use Rattle.bhs_replay.proofs.reader.play.Goals as goal

pub returns-in-Some-2-clause-ok : goal.returns-in-Some-2-clause-ok
returns-in-Some-2-clause-ok c = opens_match c.args.line.now c.args.playing.now c.in-Some-2.game c.in_default.is
    (rw c.in-Some-2.is at c.in_ok-game.ensures)

pub returns-in-None-clause-err : goal.returns-in-None-clause-err
returns-in-None-clause-err c = inr (opens_none c.args.line.now c.args.playing.now c.in_default.is
    (rw c.in-None.is at c.in_ok-game.ensures))
