use Rattle.std.proofs.lemmas.Result.{err_from_is_err_and}
use Rattle.bhs_tournament.proofs.KeyTableLemmas.{goes_on, stops}
use Rattle.bhs_tournament.proofs.key_table.keys_of.Goals as goal

pub returns-in_err-add_keys : goal.returns-in_err-add_keys
returns-in_err-add_keys c =
    let p = err_from_is_err_and c.from_residual.result c.from_residual.ensures.1 in
    rw (p.1, p.2) (stops c.args.matches.now c.loop-game.game c.loop-game.table _ c.index-matches-game.result
    c.in_err-add_keys.field-0.0 c.loop-game-test.true c.index-matches-game.is
    (rw c.deref.ensures.value at c.in_err-add_keys.ensures) c.loop-game.invariant)

pub loop-game-preserved : goal.loop-game-preserved
loop-game-preserved c = goes_on c.args.matches.now c.loop-game.game c.loop-game.table _ c.index-matches-game.result
    c.add_keys.new.table c.loop-game-test.true c.index-matches-game.is
    (rw c.deref.ensures.value at c.in_ok-add_keys.ensures) c.loop-game.invariant
