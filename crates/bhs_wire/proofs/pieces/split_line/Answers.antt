use Rattle.std.proofs.Common.{sym, ◌∙◌}
use Rattle.bhs_wire.proofs.LineFeeds.{no_line_feed, no_line_feed_before, around}
use Rattle.bhs_wire.proofs.pieces.split_line.Goals as goal

pub returns-in_err-end : goal.returns-in_err-end
returns-in_err-end c = rw c.from_residual.ensures
    (no_line_feed c.args.bytes.now (sym c.line_end.ensures ∙ c.in_err-end.was))

pub returns : goal.returns
returns c =
    let found = sym c.line_end.ensures ∙ c.in_ok-end.was in (
      around 10 c.args.bytes.now c.in_ok-end.end found,
      no_line_feed_before c.args.bytes.now
          c.in_ok-end.end found,
    )
