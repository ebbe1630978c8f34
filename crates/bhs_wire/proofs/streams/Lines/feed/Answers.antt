use Rattle.std.proofs.Common.{◌++◌, map, ap, ◌∙◌}
use Rattle.bhs_wire.specs.Lines.{seen, found_in}
use Rattle.bhs_wire.proofs.StreamLaws.{lines_of_stream, held_of_stream}
use Rattle.bhs_wire.proofs.streams.Lines.feed.Goals as goal

pub returns-clause-found : goal.returns-clause-found
returns-clause-found c =
    ap (map seen) c.from.ensures.0
    ∙ (c.in_ok-feed_into.ensures.found
    ∙ ap (λ found. map seen found ++ found_in c.args.self.now c.args.piece.now) c.in_ok-found.ensures.items)

pub returns-clause-lines : goal.returns-clause-lines
returns-clause-lines c = lines_of_stream c.args.self.now c.args.piece.now _ (returns-clause-found c)

pub returns-clause-held : goal.returns-clause-held
returns-clause-held c = held_of_stream c.args.self.now c.args.piece.now _ c.in_ok-feed_into.ensures.left
