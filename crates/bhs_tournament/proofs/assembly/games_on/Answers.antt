use Rattle.std.proofs.Common.{◌∙◌}
use Rattle.std.proofs.lemmas.Result.{err_from_is_err_and}
use Rattle.bhs_tournament.proofs.PlaceLemmas.{among_names}
use Rattle.bhs_tournament.proofs.Passing.{goes_over, stops_over}
use Rattle.bhs_tournament.proofs.assembly.games_on.Goals as goal

pub network_of-net-requires-clause-among : goal.network_of-net-requires-clause-among
network_of-net-requires-clause-among c = rw c.as_str.ensures
    (c.requires.all c.index-matches-game.result.network
    ∙ among_names c.args.matches.now c.loop-game.game c.index-matches-game.result c.loop-game-test.true
    c.index-matches-game.is)

pub loop-game-preserved : goal.loop-game-preserved
loop-game-preserved c = goes_over _ c.args.matches.now c.loop-game.game c.loop-game.games.items _
    c.index-matches-game.result c.in_ok-begun.field-0 c.push.new.self.items c.loop-game-test.true
    c.index-matches-game.is (rw (c.network_of-net.ensures, c.as_str.ensures, c.requires.exact) at c.in_ok-begun.ensures)
    c.in_ok-push.ensures.items c.loop-game.invariant

pub returns-in_err-begun : goal.returns-in_err-begun
returns-in_err-begun c =
    let stops = stops_over _ c.args.matches.now c.loop-game.game c.loop-game.games.items _
    c.index-matches-game.result c.in_err-begun.field-0.0 c.loop-game-test.true
    c.index-matches-game.is
    (rw (c.network_of-net.ensures, c.as_str.ensures, c.requires.exact) at c.in_err-begun.ensures)
    c.loop-game.invariant in
    let p = err_from_is_err_and c.from_residual.result c.from_residual.ensures.1 in
    rw (p.1, p.2) stops
