use Rattle.bhs_server.proofs.KnownLemmas.{news_called}
use Rattle.bhs_server.proofs.ports.MatchPortPort.news.Goals as goal

pub returns : goal.returns
returns g c =
    let lookup = c.in-Some-get.ensures.lookup in
    news_called _ c.args.self.now c.in-Some.field-0 c.news.new.pass c.in-Some-get.shared_match.now c.news.result
    c.self.view_is
    c.in-Some.is lookup.3.0 lookup.1 c.news.ensures.news c.news.ensures.failed
