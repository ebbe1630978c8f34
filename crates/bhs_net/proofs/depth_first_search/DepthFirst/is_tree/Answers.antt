use Rattle.std.proofs.Common.{◌<◌, ℕ, length, arith, sym, subst, Vec, Global}
use Rattle.std.proofs.lemmas.List.{length-map}
use Rattle.bhs_net.specs.Links.{End}
use Rattle.bhs_net.specs.Network.{network_of, nodes_of}
use Rattle.bhs_net.specs.Trees.{Hangs}
use Rattle.bhs_net.proofs.TreeLemmas.{AllHang-more}
use Rattle.bhs_net.proofs.depth_first_search.DepthFirst.is_tree.Goals as goal
use Rattle.bhs_net.proofs.depth_first_search.DepthFirst.is_tree.Goals.{else-node-ne0-via-then-node-ne0+else-not-hangs}
use Rattle.bhs_net.proofs.depth_first_search.DepthFirst.is_tree.Goals.{else-node-ne0-via-else-node-ne0}

pub loop-node-preserved : goal.loop-node-preserved
loop-node-preserved c =
    let rows = c.args.rows.now in
    let node = c.loop-node.node in
    let size = length-map rows (λ (r : Vec End Global). r.items) in
    let lt : node < length rows = let t = c.loop-node-test.true in omega arith in
    AllHang-more rows c.args.self.now node c.index-rows-node.result lt c.index-rows-node.is
    (λ other. elim c.else-node-ne0.branch [
      | else-node-ne0-via-then-node-ne0+else-not-hangs w ↦
          subst (λ (k : ℕ). Hangs c.index-rows-node.result.items c.args.self.now k node) (sym size)
          (rw w.deref.ensures.value at (w.hangs.ensures w.if-not-hangs.false))
      | else-node-ne0-via-else-node-ne0 w ↦ absurd (let is = w.if-node-ne0.false in other (omega arith))
    ])
    c.loop-node.invariant

pub returns : goal.returns
returns c = λ _.
    let rows = c.args.rows.now in
    let size = length-map rows (λ (r : Vec End Global). r.items) in record {
      root = let is = c.if-entry-ne0.false in let e = c.entry.ensures in omega arith;
      hung = λ node lt other.
          c.loop-node.invariant node (let l : node < nodes_of (network_of rows) = lt in omega arith) other;
    }
