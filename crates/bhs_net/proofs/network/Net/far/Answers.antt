use Rattle.std.proofs.Common.{◌≡◌, ◌<◌, length, arith, ap, ◌∙◌, subst, List, Vec, Global}
use Rattle.std.proofs.lemmas.List.{length-map}
use Rattle.bhs_net.specs.Links.{End}
use Rattle.bhs_net.specs.Network.{Network, network_of, nodes_of, row_of, degree_of}
use Rattle.bhs_net.proofs.Degrees.{far_node, row_of-network_of}
use Rattle.bhs_net.proofs.Listed.{HasPort-node}
use Rattle.bhs_net.proofs.network.Net.far.Goals as goal

pub returns-clause-node : goal.returns-clause-node
returns-clause-node c =
    let rows = c.self.inside.rows.items in
    let net : Network = c.args.self.now in
    let shown : network_of rows ≡ net = c.self.view_is in
    let asked : c.args.p < degree_of net c.args.v = c.requires in
    let is_node : c.args.v < nodes_of net = HasPort-node net c.args.v c.args.p asked in
    let at : c.from.result < length rows =
    (let size : length (network_of rows) ≡ length net = ap (λ (n : Network). length n) shown in
    let same : length (network_of rows) ≡ length rows = length-map rows (λ (r : Vec End Global). r.items) in
    let from : c.from.result ≡ c.args.v = c.from.ensures in
    omega arith) in
    let row : row_of (network_of rows) c.from.result ≡ c.index.result.now.items =
    row_of-network_of rows c.from.result c.index.result.now at c.index.ensures in
    let degree : degree_of (network_of rows) c.from.result ≡ length c.index.result.now.items =
    ap (λ (r : List End). length r) row in
    let same_degree : degree_of (network_of rows) c.from.result ≡ degree_of net c.args.v =
    ap (λ (n : Network). degree_of n c.from.result) shown ∙ ap (λ v. degree_of net v) c.from.ensures in
    let has : c.from-2.result < length c.index.result.now.items =
    (let p : c.from-2.result ≡ c.args.p = c.from-2.ensures in omega arith) in
    subst (λ (n : Network). c.index-2.result.now.0 < nodes_of n) shown
    (far_node rows c.from.result c.from-2.result c.index.result.now c.index-2.result.now c.self.invariant.0.labelled at
    c.index.ensures has c.index-2.ensures)
