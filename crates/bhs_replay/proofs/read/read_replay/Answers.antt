use Rattle.bhs_replay.proofs.ReadLemmas.{ends_whole, ends_short}
use Rattle.bhs_replay.proofs.read.read_replay.Goals as goal

pub returns-clause-ok : goal.returns-clause-ok
returns-clause-ok g c =
    ends_whole g.R.Input.gives c.args.reader.now c.read_all.new.reader c.args.turns c.read_all.new.replay
    c.in_ok-read_all.ensures.ok c.finish.result c.finish.ensures

pub returns-clause-err : goal.returns-clause-err
returns-clause-err g c =
    ends_short g.R.Input.gives c.args.reader.now c.read_all.new.reader c.args.turns c.read_all.new.replay
    c.in_ok-read_all.ensures.ok c.finish.result c.finish.ensures
