use Rattle.std.proofs.Common.{◌≡◌, ◌<◌, length, arith, ap, Vec, Global}
use Rattle.std.proofs.lemmas.List.{length-map}
use Rattle.bhs_net.specs.Links.{End}
use Rattle.bhs_net.specs.Network.{Network, network_of}
use Rattle.bhs_net.proofs.Degrees.{vec_len-le}
use Rattle.bhs_net.proofs.network.Net.degree.Goals as goal

pub overflow_cast-result : goal.overflow_cast-result
overflow_cast-result c =
    let rows = c.self.inside.rows.items in
    let at : c.from.result < length rows =
    let shown : length (network_of rows) ≡ length c.args.self.now = ap (λ (net : Network). length net) c.self.view_is in
    let same : length (network_of rows) ≡ length rows = length-map rows (λ (r : Vec End Global). r.items) in
    let asked : c.args.v < length c.args.self.now = c.requires in
    let from : c.from.result ≡ c.args.v = c.from.ensures in
    omega arith in
    let most = vec_len-le rows c.from.result c.index.result.now at c.index.ensures c.self.invariant.0.labelled in
    omega arith
