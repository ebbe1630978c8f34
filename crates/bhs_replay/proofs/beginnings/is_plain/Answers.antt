use Rattle.std.proofs.Common.{not, arith}
use Rattle.json.proofs.Printed.Plain.{escape_on_plain}
use Rattle.bhs_replay.proofs.BeginningLemmas.{plain_all}
use Rattle.bhs_replay.proofs.beginnings.is_plain.Goals as goal

pub returns : goal.returns
returns c = escape_on_plain (not c.loop-byte.has_escape) c.args.text.now
    (plain_all c.loop-byte.has_escape c.args.text.now c.loop-byte.byte-index c.loop-byte.invariant
    (omega (arith, c.loop-byte-test.false)))
