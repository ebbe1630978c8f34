use Rattle.std.proofs.Common.{◌≡◌, ◌<◌, ◌≤◌, ◌-◌, length, arith, sym, ap, ◌∙◌}
use Rattle.bhs_net.specs.DepthFirst.{place_in}
use Rattle.bhs_net.proofs.DepthFirstLemmas.{ArePlaced-more, IsNetwork-from_all}
use Rattle.bhs_net.proofs.depth_first_search.NodeOrder.shows_network.Goals as goal

pub loop-node-preserved : goal.loop-node-preserved
loop-node-preserved c =
    let lt : c.loop-node.node < length c.args.rows.now = let t = c.loop-node-test.true in omega arith in
    let within : place_in c.args.self.now.places c.loop-node.node ≤ length c.args.rows.now - 1 =
    let f = c.if-from-last.false in let e = c.from.ensures in omega arith in
    let here : place_in c.args.self.now.nodes (place_in c.args.self.now.places c.loop-node.node) ≡ c.loop-node.node =
    ap (λ k. place_in c.args.self.now.nodes k) (sym c.from-else-from-last.ensures)
    ∙ (sym c.from-else-from-last-2.ensures ∙ c.if-from-node.false) in
    let leads = rw c.deref.ensures.value at (c.leads_on.ensures c.if-not-leads_on.false) in
    ArePlaced-more c.args.rows.now c.args.self.now.nodes c.args.self.now.places (length c.args.rows.now - 1)
    c.loop-node.node c.index-rows-node.result lt c.index-rows-node.is within here leads c.loop-node.invariant

pub returns : goal.returns
returns c = λ _. IsNetwork-from_all c.args.rows.now c.args.self.now.nodes c.args.self.now.places
    (length c.args.rows.now - 1) c.loop-node.node c.requires (omega arith) c.loop-node.invariant
