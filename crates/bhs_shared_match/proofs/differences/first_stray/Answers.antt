use Rattle.bhs_shared_match.specs.Settling.{arrived_by}
use Rattle.bhs_shared_match.proofs.SettleLemmas.{mapped_more, mapped_all}
use Rattle.bhs_shared_match.proofs.differences.first_stray.Goals as goal

pub loop-pass-preserved : goal.loop-pass-preserved
loop-pass-preserved c =
    mapped_more (arrived_by c.args.play.now) _ _ _ _ _ _ _ c.loop-pass.invariant c.loop-pass-test.true c.pass-item.is
    c.agent.ensures c.stray.ensures c.lesser-best.ensures

pub returns : goal.returns
returns c = mapped_all (arrived_by c.args.play.now) _ _ _ c.loop-pass.invariant c.loop-pass-test.false
