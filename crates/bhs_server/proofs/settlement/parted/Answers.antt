use Rattle.bhs_server.proofs.PartLemmas.{own_more, others_more}
use Rattle.bhs_server.proofs.settlement.parted.Goals as goal

pub loop-session-preserved-in-Continue-branch-2 : goal.loop-session-preserved-in-Continue-branch-2
loop-session-preserved-in-Continue-branch-2 c = (
  tt,
  tt,
  own_more c.args.number c.args.sessions.items _ _ c.in-Some.session _ _ _ c.in-Some.ensures.steps.0 c.if-is_own.true
      c.in_ok-push.ensures.items c.loop-session.invariant.2,
)

pub loop-session-preserved : goal.loop-session-preserved
loop-session-preserved c = (
  tt,
  tt,
  others_more c.args.number c.args.sessions.items _ _ c.in-Some.session _ _ _ c.in-Some.ensures.steps.0
      c.if-is_own.false c.in_ok-push-2.ensures.items c.loop-session.invariant.2,
)
