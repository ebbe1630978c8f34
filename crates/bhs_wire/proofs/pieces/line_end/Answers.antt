use Rattle.bhs_wire.proofs.FirstFeeds.{position-from_first}
use Rattle.bhs_wire.specs.Lines.{is_line_feed}
use Rattle.bhs_wire.proofs.pieces.line_end.Goals as goal

pub returns : goal.returns
returns c = position-from_first is_line_feed c.args.bytes.now c.memchr.result c.memchr.ensures
