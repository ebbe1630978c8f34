use Rattle.bhs_match.proofs.ApplyLemmas.{news_given}
use Rattle.bhs_match.proofs.games.Match.news.Goals as goal

pub returns : goal.returns
returns c =
    let known = news_given c.self.inside.world c.self.inside.log.items _ _ _ c.args.self.now _ c.args.agent
    c.self.invariant.0 c.deref.ensures.value c.places.ensures c.self.view_is in
    record { places = known.same; bound = known.bound; stranger = known.stranger }
