use Rattle.std.proofs.Common.{length, ap, take_all, arith}
use Rattle.bhs_world.proofs.JudgeLemmas.{link_marked}
use Rattle.bhs_world.proofs.setup_checks.mark_links.Goals as goal

pub loop-end-preserved : goal.loop-end-preserved
loop-end-preserved c =
    link_marked _ _ c.args.setup.now.dark _ c.loop-end.end-index _ _ _ c.ends-end-items.ensures c.loop-end-test.true
    c.if-not-is_port.ensures c.if-is_dark.ensures c.loop-end.invariant.0
    (c.in_ok-add_link.ensures.ok _ _ c.loop-end.invariant.0) c.loop-end.invariant.1

pub returns-clause-signs : goal.returns-clause-signs
returns-clause-signs c = λ _.
    let same = ap length c.ends-end-items.ensures in
    let over = c.loop-end-test.false in
    rw (← take_all c.loop-end.end-index c.args.setup.now.dark (omega arith)) c.loop-end.invariant.0
