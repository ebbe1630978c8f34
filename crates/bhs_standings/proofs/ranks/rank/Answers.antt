use Rattle.std.proofs.Common.{rules, arith}
use Rattle.std.proofs.lemmas.Fn.{always_returns_same}
use Rattle.bhs_model.proofs.NormalLemmas.{range_more}
use Rattle.bhs_standings.specs.Ranks.{precedes}
use Rattle.bhs_standings.proofs.RankLemmas.{precedes_orders, ranking_of}
use Rattle.bhs_standings.proofs.ranks.rank.Goals as goal

pub loop-place-preserved : goal.loop-place-preserved
loop-place-preserved c = rw (range_more c.loop-place.place, ← c.loop-place.invariant) c.in_ok-push.ensures.items

pub returns : goal.returns
returns c = ranking_of c.args.rows.now _ c.sort_by.new.self.items c.loop-place.place (omega arith)
    c.loop-place.invariant c.sort_by.ensures.permutation
    (c.in_ok-sort_by.ensures.sorted (precedes c.args.rows.now) (precedes_orders c.args.rows.now)
    (always_returns_same _ _ _ (λ a r q k. search rules)))
    (c.sort_by.ensures.stable (precedes c.args.rows.now) (precedes_orders c.args.rows.now)
    (always_returns_same _ _ _ (λ a r q k. search rules)))
