use Rattle.std.proofs.Common.{arith, sym, subst, List, ℕ}
use Rattle.std.proofs.lemmas.List.{map-append}
use Rattle.bhs_net.specs.Filling.{index_of, IsFilled}
use Rattle.bhs_net.proofs.Fillings.{HasRows-more, places_read}
use Rattle.bhs_net.proofs.fast_rows.filled_rows.Goals as goal

pub loop-node-preserved : goal.loop-node-preserved
loop-node-preserved c =
    let links = c.args.links.now in
    let node = c.loop-node.node in
    let row = c.in-Some.row.items in
    let read = places_read c.args.index.now node c.index-index-node.result
    (let t = c.loop-node-test.true in omega arith) c.index-index-node.is in
    let filled : IsFilled links node c.index-index-node.result.items row =
    rw c.deref.ensures.value at (rw c.in-Some.is at c.in_ok-row.ensures) in
    rw (c.in_ok-push-in-Some.ensures.items, map-append)
    (HasRows-more links (index_of c.args.index.now) node _ row
    (subst (λ (n : List ℕ). IsFilled links node n row) (sym read) filled) c.loop-node.invariant)
