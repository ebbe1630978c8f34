use Rattle.std.proofs.Common.{◌≡◌, ⊎_elim, length, arith, true, false, sym, ap, ◌∙◌, subst, get_or, Bool, List}
use Rattle.bhs_net.specs.Search.{IsMarked}
use Rattle.bhs_net.proofs.Places.{below_or_at}
use Rattle.bhs_net.proofs.search.reaches_all.Goals as goal

pub loop-node-init : goal.loop-node-init
loop-node-init c = λ early h. absurd (omega arith)

pub loop-node-preserved : goal.loop-node-preserved
loop-node-preserved c = λ early h apart. ⊎_elim
    (λ below. c.loop-node.invariant early below apart)
    (λ at. ⊎_elim
    (λ removed. absurd (apart (at ∙ removed.1)))
    (λ marked. subst (λ d. IsMarked c.deref-is_marked-items.result.now d) (sym at) marked)
    c.else-not-is_marked.either)
    (below_or_at early c.loop-node.node h)

pub returns-then-node-removed : goal.returns-then-node-removed
returns-then-node-removed c =
    let size = c.in_ok-marks.ensures.size in
    let same : length c.deref-is_marked-items.result.now ≡ length c.in_ok-marks.marks.items =
    ap (λ (m : List Bool). length m) c.deref-is_marked-items.ensures.value in
    let t = c.loop-node-test.true in (
      c.loop-node.node,
      omega arith,
      c.if-node-removed.true,
      λ path.
          let marked = c.in_ok-marks.ensures.whole c.loop-node.node path in
          let bare : get_or c.in_ok-marks.marks.items c.loop-node.node false ≡ false =
          subst (λ (m : List Bool). get_or m c.loop-node.node false ≡ false) c.deref-is_marked-items.ensures.value
          c.if-not-is_marked.true in
          let no : true ≡ false = sym marked ∙ bare in cc,
    )

pub returns : goal.returns
returns c = λ node h apart.
    let size = c.in_ok-marks.ensures.size in
    let same : length c.deref-is_marked-items.result.now ≡ length c.in_ok-marks.marks.items =
    ap (λ (m : List Bool). length m) c.deref-is_marked-items.ensures.value in
    c.in_ok-marks.ensures.sound node (subst (λ (m : List Bool). IsMarked m node) c.deref-is_marked-items.ensures.value
    (c.loop-node.invariant node (omega arith) apart))
