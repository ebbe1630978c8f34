use Rattle.bhs_shared_match.proofs.NewsLemmas.{news_found}
use Rattle.bhs_shared_match.proofs.pass.Pass.hear_news.Goals as goal

pub returns-clause-here : goal.returns-clause-here
returns-clause-here c =
    news_found c.args.play.now _ _ _ _ _ _ c.log-log.ensures.log c.arrival_of.ensures c.in-Some.is
    c.in_ok-reply.ensures c.log-log.ensures.replies
