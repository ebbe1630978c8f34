use Rattle.std.proofs.Common.{rules, ap}
use Rattle.bhs_server.specs.Ports.{Seated, IsOfSharedMatch}
use Rattle.bhs_server.proofs.ServedLemmas.{of_at}
use Rattle.bhs_server.proofs.ports.MatchPortPort.enter.Goals as goal

pub returns : goal.returns
returns g c =
    let lookup = c.in-Some-get.ensures.lookup in
    let of : IsOfSharedMatch c.args.self.now.shared_matches c.in-Some.game c.in-Some-claim.pass =
    of_at c.self.inside.shared_matches.now c.args.self.now.shared_matches c.in-Some.game c.in-Some-claim.pass
    c.in-Some-get.shared_match.now
    (ap (λ (port : Seated). port.shared_matches) c.self.view_is) lookup.3.0 lookup.1 c.in-Some-claim.ensures.quota in
    search (rules, of)
