use Rattle.std.proofs.Common.{sym}
use Rattle.bhs_wire.proofs.LineFeeds.{around}
use Rattle.bhs_script.proofs.script.parted.Goals as goal

pub returns-in-Some-clause-whole : goal.returns-in-Some-clause-whole
returns-in-Some-clause-whole c =
    around 32 c.args.text.now c.in-Some.end (sym c.in-Some.ensures.place)
