use Rattle.std.proofs.Common.{◌≡◌, ◌<◌, ◌≤◌, length, get_or, arith, true, false, sym, ◌∙◌, subst, Vec, Global}
use Rattle.std.proofs.lemmas.List.{length-map}
use Rattle.bhs_net.specs.Links.{End}
use Rattle.bhs_net.specs.Network.{nodes_of}
use Rattle.bhs_net.specs.Network.{network_of}
use Rattle.bhs_net.proofs.Marks.{IsSearch-first, IsStep-past, IsStep-set, next_node, port_read, mark_read, row_done}
use Rattle.bhs_net.proofs.Marks.{search_over, no_mark}
use Rattle.bhs_net.proofs.search.reached.Goals as goal
use Rattle.bhs_net.proofs.search.reached.Goals.{then-other-removed+then-not-index+in_ok-push-2, else-other-removed}
use Rattle.bhs_net.proofs.search.reached.Goals.{else-other-removed-via-then-other-removed+else-not-index}
use Rattle.bhs_net.proofs.search.reached.Goals.{else-other-removed-via-else-other-removed, else-loop-next-test}
use Rattle.bhs_net.proofs.search.reached.Goals.{then-loop-next-test+then-next-len}

pub bounds-rows-node : goal.bounds-rows-node
bounds-rows-node c =
    let next : c.loop-next.next < length c.loop-next.found.items = let w = c.loop-next.invariant.within in
    let l = c.loop-next.found.ok.0 in let ne = c.if-next-len.false in omega arith in
    (next_node c.args.rows.now c.args.start c.args.removed c.loop-next.marks.items c.loop-next.found.items
    c.loop-next.next c.index-node.result.now c.loop-next.invariant.search next c.index-node.ensures).0

pub index-requires : goal.index-requires
index-requires c =
    let read = port_read c.args.rows.now c.requires.labelled c.args.start c.args.removed c.loop-next.next
    c.index-node.result.now c.loop-end.end-index c.loop-end.marks.items c.loop-end.found.items
    c.index-rows-node.result c.deref-end-items.result.now c.from-other.result c.loop-end.invariant
    c.index-rows-node.is c.deref-end-items.ensures.value c.loop-end-test.true c.from-other.ensures in
    let lt : c.from-other.result < length c.loop-end.marks.items = read.0 in
    let l = c.loop-end.marks.ok.0 in
    omega arith

pub loop-end-preserved : goal.loop-end-preserved
loop-end-preserved c =
    let rows = c.args.rows.now in
    let start = c.args.start in
    let removed = c.args.removed in
    let next = c.loop-next.next in
    let node = c.index-node.result.now in
    let port = c.loop-end.end-index in
    let marks = c.loop-end.marks.items in
    let found = c.loop-end.found.items in
    let other = c.from-other.result in
    let step = c.loop-end.invariant in
    let read = port_read rows c.requires.labelled start removed next node port marks found c.index-rows-node.result
    c.deref-end-items.result.now other step c.index-rows-node.is c.deref-end-items.ensures.value
    c.loop-end-test.true c.from-other.ensures in
    elim c.if-other-removed.branch [
      | then-other-removed+then-not-index+in_ok-push-2 w ↦
          let fresh = mark_read marks other w.index.result.now false read.0 w.index.ensures w.if-not-index.true in
          rw (w.marks-is, w.found-is, w.in_ok-push-2.ensures.items)
          (IsStep-set (network_of rows) c.requires.labelled start removed next node port marks found step read.1
          other read.2 w.if-other-removed.true fresh)
      | else-other-removed w ↦ elim w.else-other-removed.branch [
        | else-other-removed-via-then-other-removed+else-not-index w' ↦
            let there = mark_read marks other w'.index.result.now true read.0 w'.index.ensures w'.if-not-index.false in
            rw (w.marks-is, w.found-is) (IsStep-past (network_of rows) c.requires.labelled start removed next node port
            marks found step read.1 (λ _. subst (λ d. get_or marks d false ≡ true) (sym read.2) there))
        | else-other-removed-via-else-other-removed w' ↦
            rw (w.marks-is, w.found-is) (IsStep-past (network_of rows) c.requires.labelled start removed next node port
            marks found step read.1 (λ apart. absurd (apart (read.2 ∙ w'.if-other-removed.false))))
      ]
    ]

pub index_mut-requires-then-not-index : goal.index_mut-requires-then-not-index
index_mut-requires-then-not-index c =
    let read = port_read c.args.rows.now c.requires.labelled c.args.start c.args.removed c.loop-next.next
    c.index-node.result.now c.loop-end.end-index c.loop-end.marks.items c.loop-end.found.items
    c.index-rows-node.result c.deref-end-items.result.now c.from-other.result c.loop-end.invariant
    c.index-rows-node.is c.deref-end-items.ensures.value c.loop-end-test.true c.from-other.ensures in
    let lt : c.from-other.result < length c.loop-end.marks.items = read.0 in
    let l = c.loop-end.marks.ok.0 in
    omega arith

pub offset_bounds-rows-node : goal.offset_bounds-rows-node
offset_bounds-rows-node c =
    let next : c.loop-next.next < length c.loop-next.found.items = let w = c.loop-next.invariant.within in
    let l = c.loop-next.found.ok.0 in let ne = c.if-next-len.false in omega arith in
    let lt : c.index-node.result.now < length c.args.rows.now =
    (next_node c.args.rows.now c.args.start c.args.removed c.loop-next.marks.items c.loop-next.found.items
    c.loop-next.next c.index-node.result.now c.loop-next.invariant.search next c.index-node.ensures).0 in
    let many : nodes_of (network_of c.args.rows.now) ≤ 4096 = c.requires.labelled.many in
    let all = length-map c.args.rows.now (λ (r : Vec End Global). r.items) in
    grind arith

pub loop-next-init : goal.loop-next-init
loop-next-init c =
    let rows = c.args.rows.now in
    let blank = c.in_ok-marks.ensures.items_if_clones_equal (λ y same. same) in
    let all = length-map rows (λ (r : Vec End Global). r.items) in
    let len = c.in_ok-marks.ensures.len in
    let l = c.in_ok-marks.marks.ok.0 in
    let start_in : c.args.start < nodes_of (network_of rows) = let n = c.requires.node in omega arith in
    let size : length c.in_ok-marks.marks.items ≡ nodes_of (network_of rows) = omega arith in
    record {
      search = rw (c.in_ok-push.ensures.items, c.new-found.ensures.items)
          (IsSearch-first (network_of rows) c.args.start c.args.removed c.in_ok-marks.marks.items size start_in
          c.requires.kept (no_mark _ c.in_ok-marks.marks.items blank));
      done = λ k h. absurd (omega arith);
      within = omega arith;
    }

pub loop-next-preserved : goal.loop-next-preserved
loop-next-preserved c = record {
  search = c.loop-end.invariant.search;
  done = row_done c.args.rows.now c.args.start c.args.removed c.loop-next.next c.index-node.result.now
      c.loop-end.end-index c.loop-end.marks.items c.loop-end.found.items c.index-rows-node.result
      c.deref-end-items.result.now c.loop-end.invariant c.index-rows-node.is c.deref-end-items.ensures.value
      c.loop-end-test.false;
  within = let w = c.loop-end.invariant.within in omega arith;
}

pub returns : goal.returns
returns c =
    let search = c.loop-next.invariant.search in
    let over : length c.loop-next.found.items ≤ c.loop-next.next = elim c.loop-next-test.branch [
      | else-loop-next-test w ↦
          (let all = length-map c.args.rows.now (λ (r : Vec End Global). r.items) in let most = search.count in
          let out = w.loop-next-test.false in omega arith)
      | then-loop-next-test+then-next-len w ↦
          (let is = w.if-next-len.true in let len = w.len.ensures in let l = c.loop-next.found.ok.0 in omega arith)
    ] in
    search_over (network_of c.args.rows.now) c.args.start c.args.removed c.loop-next.marks.items c.loop-next.found.items
    c.loop-next.next search c.loop-next.invariant.done over
