use Rattle.bhs_replay.proofs.ReadLemmas.{ends_headless, ends_part}
use Rattle.bhs_replay.proofs.read.read_part.Goals as goal

pub returns-clause-ok : goal.returns-clause-ok
returns-clause-ok g c =
    ends_part g.R.Input.gives c.args.reader.now c.read_all.new.reader c.args.turns c.read_all.new.replay
    c.in_ok-read_all.ensures.ok c.close.result c.close.ensures.ok

pub returns-clause-err : goal.returns-clause-err
returns-clause-err g c =
    ends_headless g.R.Input.gives c.args.reader.now c.read_all.new.reader c.args.turns c.read_all.new.replay
    c.in_ok-read_all.ensures.ok c.close.result c.close.ensures.err
