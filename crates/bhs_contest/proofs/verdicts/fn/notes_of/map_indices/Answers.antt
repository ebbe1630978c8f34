use Rattle.bhs_referee.specs.Verdicts.{verdict_of}
use Rattle.bhs_contest.proofs.NoteLemmas.{seen_at}
use Rattle.bhs_contest.proofs.verdicts.fn.notes_of.map_indices.Goals as goal

pub returns : goal.returns
returns c =
    seen_at verdict_of c.captures.showcase.now c.captures.sealed.now c.args.game c.index-sealed-game.result
    c.shown_by_judge.result c.requires.0 c.index-sealed-game.is c.shown_by_judge.ensures.place
    c.shown_by_judge.ensures.seen
