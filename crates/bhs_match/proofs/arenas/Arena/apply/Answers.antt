use Rattle.std.proofs.Common.{arith}
use Rattle.bhs_match.proofs.GameLemmas.{goes_on, played_in}
use Rattle.bhs_match.proofs.arenas.Arena.apply.Goals as goal

pub returns-clause-history : goal.returns-clause-history
returns-clause-history c =
    λ happenings are. goes_on _ _ happenings _ _ c.apply.result
    (played_in _ _ _ _ c.apply.result _ c.apply.new.self c.self.view_is (omega (arith, c.self.inside.games.ok))
    c.index_mut-game.ensures.value (record {
      reply = c.apply.ensures.reply;
      log = c.apply.ensures.log;
      shown = c.apply.ensures.shown;
      place = c.apply.ensures.place;
      net = c.apply.ensures.same.0;
      setup = c.apply.ensures.same.1;
    }))
    are
